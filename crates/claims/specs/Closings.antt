-- An exception is over after at most 36 closings: four levels and 32 jobs, whatever other calls
-- come between.
use Rattle.std.specs.Prelude.{ℕ, suc, ◌<◌, ◌≡◌, ◌≢◌, List, [], ◌∷◌}
use Rattle.record_exception.specs.declared.Exception.{Exception}
use Rattle.record_thread.specs.declared.Waiting.TheVariants.{InException}
use Rattle.records.specs.declared.tables.Tables.{Tables}
use Rattle.records.specs.Tables.{thread_at, fresh_tables}
use Rattle.model.specs.Step.{Call, cmd14, cmd15, step, final}

-- a handler has an exception of thread n
abbrev pub Held : Tables → ℕ → Type 0
Held t n = (e : Exception) × ((thread_at t n).waiting ≡ InException e)

-- the exception of thread n in t still waits after these calls, closed k times on the way
pub data Waits (n : ℕ) : Tables → List Call → ℕ → Type 0 where
  still : {t : Tables} → Held t n → Waits n t [] 0
  between : {t : Tables} {c : Call} {l : List Call} {k : ℕ} → c ≢ cmd15 n → Held t n →
      Waits n (step t c).tables l k → Waits n t (c ∷ l) k
  closed : {t : Tables} {l : List Call} {k : ℕ} → Held t n →
      Waits n (step t (cmd15 n)).tables l k → Waits n t (cmd15 n ∷ l) (suc k)

-- from a raise on any reachable state
unfoldable pub Closings : Type 0
Closings =
    (before : List Call) (n kind : ℕ) (l : List Call) (k : ℕ) →
    Waits n (step (final fresh_tables before) (cmd14 n kind)).tables l k → k < 36
