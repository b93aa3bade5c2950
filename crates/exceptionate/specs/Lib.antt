pub mod Exceptionate
