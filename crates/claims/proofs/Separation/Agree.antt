-- The relation between two runs of one list of calls, the first with x's calls and the second
-- without: record by record, whatever the name. It speaks of the records that the tables hold, and
-- each record says by itself that the trips are closed. Assumes nothing.
use Rattle.record_process.specs.Process.{critical_to}
use Rattle.std.proofs.Common.{Some}
use Prim.Native.Nat.{ℕ}
use mathlib.Core.Path.{◌≡◌, refl, sym, ap}
use mathlib.Core.Bool.{Bool, true, false}
use Rattle.laws.proofs.Cases.{by, no_both}
use Rattle.record_exception.specs.Channel.{is_bound}
use Rattle.record_job.specs.declared.Job.{Job}
use Rattle.record_process.specs.declared.Process.{Process}
use Rattle.record_thread.specs.declared.Thread.{Thread}
use Rattle.record_token.specs.declared.SuspendToken.{SuspendToken}
use Rattle.record_token.specs.declared.Task.{Task}
use Rattle.record_token.specs.SuspendToken.{number}
use Rattle.records.specs.declared.tables.Tables.{Tables}
use Rattle.records.specs.Tables.{job_at, own_at, inherited_at, process_at, fixed_at, thread_at, token_at}
use Rattle.claims.specs.Separation.{Trip, task_of, Apart}
use Rattle.claims.proofs.Lengths.{lengths}

-- ---- One record by itself --------------------------------------------------------------------

-- what is below a trip's job is the trip's; a job is listed till it terminates, and that only once
-- killed
pub record JobFits (x y : Trip) (k : ℕ) (v : Job) : Type 0 where
  pub below_x : (d : ℕ) → v.parent ≡ Some d → x.jobs d ≡ true → x.jobs k ≡ true
  pub below_y : (d : ℕ) → v.parent ≡ Some d → y.jobs d ≡ true → y.jobs k ≡ true
  pub killed_first : v.terminated ≡ true → v.killed ≡ true
  pub listed_till : (d : ℕ) → v.parent ≡ Some d → v.terminated ≡ false → v.listed ≡ true

-- a process is of a trip if its job is, and of x if the job that it is bound to is
pub record ProcessFits (x y : Trip) (p : ℕ) (q : Process) : Type 0 where
  pub of_x : q.made ≡ true → x.processes p ≡ x.jobs q.job
  pub of_y : q.made ≡ true → y.processes p ≡ y.jobs q.job
  pub bound_x : (j : ℕ) (b : Bool) → q.critical ≡ critical_to j b → x.jobs j ≡ x.processes p
  pub listed_made : q.listed ≡ true → q.made ≡ true

-- a thread is of a trip if its process is
pub record ThreadFits (x y : Trip) (n : ℕ) (v : Thread) : Type 0 where
  pub of_x : v.made ≡ true → x.threads n ≡ x.processes v.process
  pub of_y : v.made ≡ true → y.threads n ≡ y.processes v.process
  pub listed_made : v.listed ≡ true → v.made ≡ true

-- a token is of a trip if its task is
pub record TokenFits (x y : Trip) (k : ℕ) (v : SuspendToken) : Type 0 where
  pub of_x : (a : Task) → v.task ≡ Some a → x.tokens k ≡ task_of x (number a.kind) a.name
  pub of_y : (a : Task) → v.task ≡ Some a → y.tokens k ≡ task_of y (number a.kind) a.name

-- ---- Two records of one name -----------------------------------------------------------------

-- outside x the runs agree on what a kill reads, and at a name of y on everything; at an ancestor
-- of both trips a handler is open in both runs or in neither, as long as it has terminated in
-- neither
pub record JobAlike (x y : Trip) (k : ℕ) (v w : Job) : Type 0 where
  pub fits₁ : JobFits x y k v
  pub fits₂ : JobFits x y k w
  pub made : x.jobs k ≡ false → v.made ≡ w.made
  pub parent : x.jobs k ≡ false → v.parent ≡ w.parent
  pub killed : x.jobs k ≡ false → v.killed ≡ w.killed
  pub same : y.jobs k ≡ true → v ≡ w
  pub open4 : x.jobs k ≡ false → v.terminated ≡ false → w.terminated ≡ false →
      is_bound v.level4 ≡ is_bound w.level4
  pub open5 : x.jobs k ≡ false → v.terminated ≡ false → w.terminated ≡ false →
      is_bound v.level5 ≡ is_bound w.level5

-- the same unless it is x's
pub record Alike {A : Type 0} (F : A → Type 0) (of_x : Bool) (v w : A) : Type 0 where
  pub fits₁ : F v
  pub fits₂ : F w
  pub same : of_x ≡ false → v ≡ w

-- ---- Two runs --------------------------------------------------------------------------------

pub record Agree (x y : Trip) (s t : Tables) : Type 0 where
  pub apart : Apart x y
  pub long : lengths s ≡ lengths t
  pub jobs : (k : ℕ) → JobAlike x y k (job_at s k) (job_at t k)
  pub own : (k : ℕ) → x.jobs k ≡ false → own_at s k ≡ own_at t k
  pub inherited : (k : ℕ) → x.jobs k ≡ false → inherited_at s k ≡ inherited_at t k
  pub processes : (p : ℕ) → Alike (ProcessFits x y p) (x.processes p) (process_at s p)
      (process_at t p)
  pub fixed : (p : ℕ) → x.processes p ≡ false → fixed_at s p ≡ fixed_at t p
  pub threads : (n : ℕ) → Alike (ThreadFits x y n) (x.threads n) (thread_at s n) (thread_at t n)
  pub tokens : (k : ℕ) → Alike (TokenFits x y k) (x.tokens k) (token_at s k) (token_at t k)

-- ---- Either run may come first ---------------------------------------------------------------

job_back : {x y : Trip} {k : ℕ} {v w : Job} → JobAlike x y k v w → JobAlike x y k w v
job_back a =
    record {
      fits₁ = a.fits₂;
      fits₂ = a.fits₁;
      made = λ h. sym (a.made h);
      parent = λ h. sym (a.parent h);
      killed = λ h. sym (a.killed h);
      same = λ h. sym (a.same h);
      open4 = λ h e f. sym (a.open4 h f e);
      open5 = λ h e f. sym (a.open5 h f e);
    }

alike_back : {A : Type 0} {F : A → Type 0} {b : Bool} {v w : A} → Alike F b v w → Alike F b w v
alike_back a = record { fits₁ = a.fits₂; fits₂ = a.fits₁; same = λ h. sym (a.same h) }

pub back : {x y : Trip} {s t : Tables} → Agree x y s t → Agree x y t s
back r =
    record {
      apart = r.apart;
      long = sym r.long;
      jobs = λ k. job_back (r.jobs k);
      own = λ k h. sym (r.own k h);
      inherited = λ k h. sym (r.inherited k h);
      processes = λ p. alike_back (r.processes p);
      fixed = λ p h. sym (r.fixed p h);
      threads = λ n. alike_back (r.threads n);
      tokens = λ k. alike_back (r.tokens k);
    }

-- ---- Names -----------------------------------------------------------------------------------

-- what is one trip's is not the other's
module _ {x y : Trip} (a : Apart x y) where
  pub x_not_y : (k : ℕ) → x.jobs k ≡ true → y.jobs k ≡ false
  x_not_y k h = by (y.jobs k) (λ q. no_both h (a.jobs k q)) (λ q. q)

  pub x_not_y_process : (p : ℕ) → x.processes p ≡ true → y.processes p ≡ false
  x_not_y_process p h = by (y.processes p) (λ q. no_both h (a.processes p q)) (λ q. q)

  pub x_not_y_thread : (n : ℕ) → x.threads n ≡ true → y.threads n ≡ false
  x_not_y_thread n h = by (y.threads n) (λ q. no_both h (a.threads n q)) (λ q. q)

  pub x_not_y_token : (k : ℕ) → x.tokens k ≡ true → y.tokens k ≡ false
  x_not_y_token k h = by (y.tokens k) (λ q. no_both h (a.tokens k q)) (λ q. q)

-- a parent of a job outside a trip is outside it
module _ {x y : Trip} {k : ℕ} {v : Job} (f : JobFits x y k v) where
  pub up_not_x : (d : ℕ) → x.jobs k ≡ false → v.parent ≡ Some d → x.jobs d ≡ false
  up_not_x d h u = by (x.jobs d) (λ q. no_both (f.below_x d u q) h) (λ q. q)

  pub up_not_y : (d : ℕ) → y.jobs k ≡ false → v.parent ≡ Some d → y.jobs d ≡ false
  up_not_y d h u = by (y.jobs d) (λ q. no_both (f.below_y d u q) h) (λ q. q)

-- ---- What is known of x's records ------------------------------------------------------------

pub job_of_x : {x y : Trip} → Apart x y → (k : ℕ) → x.jobs k ≡ true → {v w : Job} →
    JobFits x y k v → JobFits x y k w → JobAlike x y k v w
job_of_x a k h f g =
    record {
      fits₁ = f;
      fits₂ = g;
      made = λ n. no_both h n;
      parent = λ n. no_both h n;
      killed = λ n. no_both h n;
      same = λ n. no_both h (a.jobs k n);
      open4 = λ n. no_both h n;
      open5 = λ n. no_both h n;
    }

pub of_x_alike : {A : Type 0} {F : A → Type 0} {b : Bool} → b ≡ true → {v w : A} → F v → F w →
    Alike F b v w
of_x_alike h f g = record { fits₁ = f; fits₂ = g; same = λ n. no_both h n }

-- a record that both runs change in one way
pub alike_by : {A : Type 0} {F : A → Type 0} {b : Bool} {v w : A} (f : A → A) →
    ((u : A) → F u → F (f u)) → Alike F b v w → Alike F b (f v) (f w)
alike_by {v = v} {w = w} f g a =
    record { fits₁ = g v a.fits₁; fits₂ = g w a.fits₂; same = λ h. ap f (a.same h) }

pub alike_refl : {A : Type 0} {F : A → Type 0} {b : Bool} (v : A) → F v → Alike F b v v
alike_refl v f = record { fits₁ = f; fits₂ = f; same = λ h. refl }

pub job_refl : {x y : Trip} {k : ℕ} (v : Job) → JobFits x y k v → JobAlike x y k v v
job_refl v f =
    record {
      fits₁ = f;
      fits₂ = f;
      made = λ h. refl;
      parent = λ h. refl;
      killed = λ h. refl;
      same = λ h. refl;
      open4 = λ h e g. refl;
      open5 = λ h e g. refl;
    }
