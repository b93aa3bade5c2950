-- No trip meddles with another (demand 3): one claim about whole lists of calls.
--
-- Take any two trips that share no name, any reachable state in which no process of the first trip
-- is bound critical to a job outside it, and any list of calls, each made for one of the two and
-- using only its names. Then the second trip's calls get the same answers and fields, and the
-- records under its names are the same in the end, as if the first trip's calls had been left out.
use Rattle.record_process.specs.Process.{critical_to}
use Rattle.std.specs.Prelude.{Some, ℕ, ◌≡◌, Bool, true, false, List, [], ◌∷◌}
use Rattle.laws.specs.Choice.{◌≤?◌, ◌<?◌, ◌or◌, if◌then◌otherwise◌}
use Rattle.record_token.specs.declared.Task.{Task}
use Rattle.record_token.specs.SuspendToken.{number}
use Rattle.records.specs.declared.tables.Tables.{Tables}
use Rattle.records.specs.Tables.{job_at, own_at, inherited_at, process_at, fixed_at, thread_at, token_at}
use Rattle.records.specs.Tables.{fresh_tables}
use Rattle.model.specs.ExceptionCalls.{bad_level}
use Rattle.model.specs.Step.{Call, cmd01, cmd02, cmd03, cmd04, cmd05, cmd06, cmd07, cmd08}
use Rattle.model.specs.Step.{cmd09, cmd0a, cmd0b, cmd0c, cmd0d, cmd0e, cmd0f, cmd10, cmd11}
use Rattle.model.specs.Step.{cmd12, cmd13, cmd14, cmd15, cmd16, cmd17, cmd18, cmd19, cmd1a}
use Rattle.model.specs.Step.{cmd1b, cmd1c, cmd1d, cmd1e, cmd1f, Shown, shown, step, answers}
use Rattle.model.specs.Step.{final}
use Rattle.claims.specs.Reachable.{AtOrAbove}

-- ---- Trips ---------------------------------------------------------------------------------

-- which trip has which name is fixed before the list
pub record Trip : Type 0 where
  pub home : ℕ
  pub jobs : ℕ → Bool
  pub processes : ℕ → Bool
  pub threads : ℕ → Bool
  pub tokens : ℕ → Bool

-- the trip that a task is of
abbrev pub task_of : Trip → ℕ → ℕ → Bool
task_of x kind n = if kind ≤? 1 then x.processes n otherwise x.threads n

-- of the made names a trip has its job, all made below it, and the tokens on these; unmade names
-- are kept for it freely
pub record IsTrip (t : Tables) (x : Trip) : Type 0 where
  pub home_made : (job_at t x.home).made ≡ true
  pub below : (j : ℕ) → (job_at t j).made ≡ true → AtOrAbove t x.home j → x.jobs j ≡ true
  pub only_below : (j : ℕ) → (job_at t j).made ≡ true → x.jobs j ≡ true → AtOrAbove t x.home j
  pub processes : (p : ℕ) → (process_at t p).made ≡ true →
      x.processes p ≡ x.jobs (process_at t p).job
  pub threads : (n : ℕ) → (thread_at t n).made ≡ true →
      x.threads n ≡ x.processes (thread_at t n).process
  pub tokens : (k : ℕ) (a : Task) → (token_at t k).task ≡ Some a →
      x.tokens k ≡ task_of x (number a.kind) a.name

-- no name is shared
pub record Apart (x y : Trip) : Type 0 where
  pub jobs : (j : ℕ) → y.jobs j ≡ true → x.jobs j ≡ false
  pub processes : (p : ℕ) → y.processes p ≡ true → x.processes p ≡ false
  pub threads : (n : ℕ) → y.threads n ≡ true → x.threads n ≡ false
  pub tokens : (k : ℕ) → y.tokens k ≡ true → x.tokens k ≡ false

-- no process of the trip is bound critical to a job outside it
abbrev pub Inward : Tables → Trip → Type 0
Inward t x =
    (p j : ℕ) (b : Bool) → (process_at t p).made ≡ true → x.processes p ≡ true →
    (process_at t p).critical ≡ critical_to j b →
    x.jobs j ≡ true

-- ---- Calls that use only a trip's names --------------------------------------------------------

-- a byte past its table is no name
abbrev pub OwnJob : Trip → ℕ → Type 0
OwnJob x j = (32 ≤? j) or x.jobs j ≡ true

abbrev pub OwnProcess : Trip → ℕ → Type 0
OwnProcess x p = (64 ≤? p) or x.processes p ≡ true

abbrev pub OwnThread : Trip → ℕ → Type 0
OwnThread x n = (128 ≤? n) or x.threads n ≡ true

abbrev pub OwnToken : Trip → ℕ → Type 0
OwnToken x k = (64 ≤? k) or x.tokens k ≡ true

-- nor is a byte after a kind or a level outside its list
pub data OwnTask (x : Trip) (n : ℕ) : ℕ → Type 0 where
  a_job : OwnJob x n → OwnTask x n 0
  a_process : OwnProcess x n → OwnTask x n 1
  a_thread : OwnThread x n → OwnTask x n 2
  no_kind : {kind : ℕ} → 2 <? kind ≡ true → OwnTask x n kind

pub data OwnOwner (x : Trip) (n : ℕ) : ℕ → Type 0 where
  level1 : OwnProcess x n → OwnOwner x n 1
  level2 : OwnThread x n → OwnOwner x n 2
  level3 : OwnProcess x n → OwnOwner x n 3
  level4 : OwnJob x n → OwnOwner x n 4
  level5 : OwnJob x n → OwnOwner x n 5
  no_level : {level : ℕ} → bad_level level ≡ true → OwnOwner x n level

abbrev pub Uses : Trip → Call → Type 0
Uses x (cmd01 j new) = OwnJob x j × OwnJob x new
Uses x (cmd02 j) = OwnJob x j
Uses x (cmd03 j new) = OwnJob x j × OwnProcess x new
Uses x (cmd04 p n) = OwnProcess x p × OwnThread x n
Uses x (cmd05 p code) = OwnProcess x p
Uses x (cmd06 p) = OwnProcess x p
Uses x (cmd07 p j flag) = OwnProcess x p × OwnJob x j
Uses x (cmd08 p new) = OwnProcess x p × OwnThread x new
Uses x (cmd09 n) = OwnThread x n
Uses x (cmd0a n) = OwnThread x n
Uses x (cmd0b n) = OwnThread x n
Uses x (cmd0c n) = OwnThread x n
Uses x (cmd0d new kind n) = OwnToken x new × OwnTask x n kind
Uses x (cmd0e k) = OwnToken x k
Uses x (cmd0f j option l) = OwnJob x j
Uses x (cmd10 j amount mode) = OwnJob x j
Uses x (cmd11 p condition) = OwnProcess x p
Uses x (cmd12 level n) = OwnOwner x n level
Uses x (cmd13 level n) = OwnOwner x n level
Uses x (cmd14 n kind) = OwnThread x n
Uses x (cmd15 n) = OwnThread x n
Uses x (cmd16 n state) = OwnThread x n
Uses x (cmd17 n strategy) = OwnThread x n
Uses x (cmd18 n) = OwnThread x n
Uses x (cmd19 n state) = OwnThread x n
Uses x (cmd1a n ready) = OwnThread x n
Uses x (cmd1b j) = OwnJob x j
Uses x (cmd1c p) = OwnProcess x p
Uses x (cmd1d n) = OwnThread x n
Uses x (cmd1e kind n) = OwnTask x n kind
Uses x (cmd1f kind n) = OwnTask x n kind

-- ---- Lists of calls for the two trips ----------------------------------------------------------

-- each call is made for x or for y
pub data Calls (x y : Trip) : Type 0 where
  done : Calls x y
  first : (c : Call) → Uses x c → Calls x y → Calls x y
  second : (c : Call) → Uses y c → Calls x y → Calls x y

module _ {x y : Trip} where
  unfoldable pub all : Calls x y → List Call
  all done = []
  all (first c u l) = c ∷ all l
  all (second c u l) = c ∷ all l

  -- with the first trip's calls left out
  unfoldable pub of_second : Calls x y → List Call
  of_second done = []
  of_second (first c u l) = of_second l
  of_second (second c u l) = c ∷ of_second l

  -- what the second trip's calls show in the whole run
  unfoldable pub to_second : Tables → Calls x y → List Shown
  to_second t done = []
  to_second t (first c u l) = to_second (step t c).tables l
  to_second t (second c u l) = shown (step t c) ∷ to_second (step t c).tables l

-- every field of each record under the trip's names, unmade ones too
pub record SameUnder (y : Trip) (s t : Tables) : Type 0 where
  pub jobs : (j : ℕ) → y.jobs j ≡ true → job_at s j ≡ job_at t j
  pub own : (j : ℕ) → y.jobs j ≡ true → own_at s j ≡ own_at t j
  pub inherited : (j : ℕ) → y.jobs j ≡ true → inherited_at s j ≡ inherited_at t j
  pub processes : (p : ℕ) → y.processes p ≡ true → process_at s p ≡ process_at t p
  pub fixed : (p : ℕ) → y.processes p ≡ true → fixed_at s p ≡ fixed_at t p
  pub threads : (n : ℕ) → y.threads n ≡ true → thread_at s n ≡ thread_at t n
  pub tokens : (k : ℕ) → y.tokens k ≡ true → token_at s k ≡ token_at t k

-- (That neither trip's job is above the other's follows: what is below a trip's job is the trip's,
-- and no name is shared.)
unfoldable pub Separation : Type 0
Separation =
    (before : List Call) (x y : Trip) → Apart x y →
    IsTrip (final fresh_tables before) x → IsTrip (final fresh_tables before) y →
    Inward (final fresh_tables before) x →
    (l : Calls x y) →
    (to_second (final fresh_tables before) l ≡ answers (final fresh_tables before) (of_second l))
    × SameUnder y (final (final fresh_tables before) (all l))
    (final (final fresh_tables before) (of_second l))
