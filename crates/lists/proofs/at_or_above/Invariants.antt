use Rattle.std.proofs.Common.{◌≡◌, ◌-◌}
use Rattle.records.specs.declared.tables.Tables.{Tables}
use Rattle.model.specs.Job.{is_above}
use Rattle.lists.proofs.at_or_above.Given as goal

-- as many steps are left as the definition has
abbrev pub invariant-loop-step : goal.invariant-loop-step
invariant-loop-step l =
    (t : Tables) → t.jobs ≡ l.jobs → is_above (32 - l._step) t l.j l.at ≡ is_above 32 t l.j l.i
