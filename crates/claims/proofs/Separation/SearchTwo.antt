-- An exception of a thread outside x whose own job and all above it run in both runs: the same
-- handler gets it, and the thread goes the same way. Assumes nothing.
use Prim.Native.Nat.{ℕ}
use mathlib.Core.Path.{◌≡◌, sym, ap, ◌∙◌, subst}
use mathlib.Core.Bool.{false}
use Rattle.record_exception.specs.declared.Place.{Place}
use Rattle.record_exception.specs.declared.Place.TheVariants.{Debugger, OwnThread, OwnProcess}
use Rattle.record_exception.specs.declared.Place.TheVariants.{SecondChance, OfJob, OfJobDebugger}
use Rattle.record_exception.specs.declared.Place.TheVariants.{Exiting}
use Rattle.record_exception.specs.Channel.{is_bound, tried}
use Rattle.record_job.specs.declared.Job.{Job}
use Rattle.record_job.specs.Job.{with_level4, with_level5}
use Rattle.record_process.specs.declared.Process.{Process}
use Rattle.record_process.specs.Process.{with_level1, with_level3}
use Rattle.record_thread.specs.declared.Thread.{Thread}
use Rattle.record_thread.specs.Thread.{with_level2}
use Rattle.records.specs.declared.tables.Tables.{Tables}
use Rattle.records.specs.Tables.{job_at, process_at, thread_at, put_job, put_process}
use Rattle.model.specs.Exception.{process_of, own_job, level_at, put_level_at, pass_over}
use Rattle.claims.specs.Separation.{Trip}
use Rattle.claims.proofs.Separation.Agree.{Agree, JobAlike}
use Rattle.claims.proofs.Separation.Fits.{fits_level1, fits_level2, fits_level3, fits_level4}
use Rattle.claims.proofs.Separation.Fits.{fits_level5}
use Rattle.claims.proofs.Separation.Writes.{put_job_two}
use Rattle.claims.proofs.Separation.Stores.{process_two, thread_two, tried_open}
use Rattle.claims.proofs.Separation.Frames.{Frame, pass_over_frame, own_frame, RunsUp}
use Rattle.claims.proofs.Separation.Frames.{runs_frame}

-- a thread n outside x, in a process and a job outside x that run in both
pub record Beside (x y : Trip) (n : ℕ) (s t : Tables) : Type 0 where
  pub rel : Agree x y s t
  pub thread : x.threads n ≡ false
  pub process : x.processes (process_of s n) ≡ false
  pub job : x.jobs (own_job s n) ≡ false
  pub runs₁ : RunsUp s (own_job s n)
  pub runs₂ : RunsUp t (own_job t n)

-- a place of a job is outside x, and the job runs in both
abbrev pub Runs : Trip → Tables → Tables → Place → Type 0
Runs x s t Debugger = Unit {0}
Runs x s t OwnThread = Unit {0}
Runs x s t OwnProcess = Unit {0}
Runs x s t SecondChance = Unit {0}
Runs x s t (OfJob j) =
    (x.jobs j ≡ false) × ((job_at s j).terminated ≡ false) × ((job_at t j).terminated ≡ false)
Runs x s t (OfJobDebugger j) =
    (x.jobs j ≡ false) × ((job_at s j).terminated ≡ false) × ((job_at t j).terminated ≡ false)
Runs x s t Exiting = Unit {0}

module _ {x y : Trip} {n : ℕ} {s t : Tables} (b : Beside x y n s t) where
  pub same_thread : thread_at s n ≡ thread_at t n
  same_thread = (b.rel.threads n).same b.thread

  pub same_process_of : process_of s n ≡ process_of t n
  same_process_of = ap (λ (v : Thread). v.process) same_thread

  same_process : process_at s (process_of s n) ≡ process_at t (process_of t n)
  same_process =
      (b.rel.processes (process_of s n)).same b.process ∙ ap (process_at t) same_process_of

  pub same_own : own_job s n ≡ own_job t n
  same_own = ap (λ (q : Process). q.job) same_process

  -- ---- A level that is read, and passed over -------------------------------------------------

  pub open_same : (place : Place) → Runs x s t place →
      is_bound (level_at s n place) ≡ is_bound (level_at t n place)
  unfolding level_at
  open_same Debugger h = ap (λ (q : Process). is_bound q.level1) same_process
  open_same OwnThread h = ap (λ (v : Thread). is_bound v.level2) same_thread
  open_same OwnProcess h = ap (λ (q : Process). is_bound q.level3) same_process
  open_same SecondChance h = ap (λ (q : Process). is_bound q.level1) same_process
  open_same (OfJob j) h = (b.rel.jobs j).open4 h.0 h.1 h.2
  open_same (OfJobDebugger j) h = (b.rel.jobs j).open5 h.0 h.1 h.2
  open_same Exiting h = ap (λ (q : Process). is_bound q.level1) same_process

  level1_two : Agree x y
      (put_process s (process_of s n)
      (with_level1 (process_at s (process_of s n)) (tried (process_at s (process_of s n)).level1)))
      (put_process t (process_of t n)
      (with_level1 (process_at t (process_of t n)) (tried (process_at t (process_of t n)).level1)))
  level1_two =
      let f : Process → Process = λ q. with_level1 q (tried q.level1) in
      subst (λ (p : ℕ). Agree x y (put_process s (process_of s n) (f (process_at s (process_of s n))))
      (put_process t p (f (process_at t p))))
      same_process_of (process_two b.rel (process_of s n) f (λ q k. fits_level1 q k _))

  level3_two : Agree x y
      (put_process s (process_of s n)
      (with_level3 (process_at s (process_of s n)) (tried (process_at s (process_of s n)).level3)))
      (put_process t (process_of t n)
      (with_level3 (process_at t (process_of t n)) (tried (process_at t (process_of t n)).level3)))
  level3_two =
      let f : Process → Process = λ q. with_level3 q (tried q.level3) in
      subst (λ (p : ℕ). Agree x y (put_process s (process_of s n) (f (process_at s (process_of s n))))
      (put_process t p (f (process_at t p))))
      same_process_of (process_two b.rel (process_of s n) f (λ q k. fits_level3 q k _))

  level4_two : (j : ℕ) → Agree x y
      (put_job s j (with_level4 (job_at s j) (tried (job_at s j).level4)))
      (put_job t j (with_level4 (job_at t j) (tried (job_at t j).level4)))
  level4_two j =
      let a : JobAlike x y j (job_at s j) (job_at t j) = b.rel.jobs j in
      put_job_two b.rel j _ _
      (record {
        fits₁ = fits_level4 (job_at s j) a.fits₁ _;
        fits₂ = fits_level4 (job_at t j) a.fits₂ _;
        made = a.made;
        parent = a.parent;
        killed = a.killed;
        same = λ e. ap (λ (v : Job). with_level4 v (tried v.level4)) (a.same e);
        open4 = λ e f g. tried_open (job_at s j).level4 ∙ a.open4 e f g ∙ sym
            (tried_open (job_at t j).level4);
        open5 = a.open5;
      })

  level5_two : (j : ℕ) → Agree x y
      (put_job s j (with_level5 (job_at s j) (tried (job_at s j).level5)))
      (put_job t j (with_level5 (job_at t j) (tried (job_at t j).level5)))
  level5_two j =
      let a : JobAlike x y j (job_at s j) (job_at t j) = b.rel.jobs j in
      put_job_two b.rel j _ _
      (record {
        fits₁ = fits_level5 (job_at s j) a.fits₁ _;
        fits₂ = fits_level5 (job_at t j) a.fits₂ _;
        made = a.made;
        parent = a.parent;
        killed = a.killed;
        same = λ e. ap (λ (v : Job). with_level5 v (tried v.level5)) (a.same e);
        open4 = a.open4;
        open5 = λ e f g. tried_open (job_at s j).level5 ∙ a.open5 e f g ∙ sym
            (tried_open (job_at t j).level5);
      })

  pass_agree : (place : Place) → Agree x y (pass_over s n place) (pass_over t n place)
  unfolding pass_over put_level_at level_at
  pass_agree Debugger = level1_two
  pass_agree OwnThread =
      thread_two b.rel n (λ (v : Thread). with_level2 v (tried v.level2))
      (λ v k. fits_level2 v k _)
  pass_agree OwnProcess = level3_two
  pass_agree SecondChance = level1_two
  pass_agree (OfJob j) = level4_two j
  pass_agree (OfJobDebugger j) = level5_two j
  pass_agree Exiting = level1_two

  pub pass_two : (place : Place) → Beside x y n (pass_over s n place) (pass_over t n place)
  pass_two place =
      let f : Frame s (pass_over s n place) = pass_over_frame s n place in
      let g : Frame t (pass_over t n place) = pass_over_frame t n place in
      record {
        rel = pass_agree place;
        thread = b.thread;
        process = ap x.processes (f.process n) ∙ b.process;
        job = ap x.jobs (own_frame f n) ∙ b.job;
        runs₁ = subst (RunsUp (pass_over s n place)) (sym (own_frame f n))
            (runs_frame f (own_job s n) b.runs₁);
        runs₂ = subst (RunsUp (pass_over t n place)) (sym (own_frame g n))
            (runs_frame g (own_job t n) b.runs₂);
      }
