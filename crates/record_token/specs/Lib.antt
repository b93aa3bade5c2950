pub mod SuspendToken
