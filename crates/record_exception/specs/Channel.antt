-- A level of an exception channel: unbound, bound, hung up or shut. Follows Exceptionate of
-- exception.rs.
use Rattle.std.specs.Prelude.{Bool, true, false}
use Rattle.record_exception.specs.declared.Level.{Level}
use Rattle.record_exception.specs.declared.Level.TheVariants.{Unbound, Bound, HungUp, Shut}

-- open to a handler
abbrev pub is_bound : Level → Bool
is_bound Unbound = false
is_bound Bound = true
is_bound HungUp = false
is_bound Shut = false

abbrev pub is_shut : Level → Bool
is_shut Unbound = false
is_shut Bound = false
is_shut HungUp = false
is_shut Shut = true

-- after an exception was tried there: a hung-up level becomes unbound
abbrev pub tried : Level → Level
tried Unbound = Unbound
tried Bound = Bound
tried HungUp = Unbound
tried Shut = Shut
