-- The relation after one store of a call: of x's own records, of records outside y in what the
-- runs may differ in, and of one store in both runs. Assumes nothing.
use Prim.Native.Nat.{ℕ}
use mathlib.Core.Path.{◌≡◌, refl, ap, ◌∙◌}
use mathlib.Core.Bool.{true, false}
use mathlib.Core.List.{map}
use lib.IntN.{ℤ}
use borrow.Author.Tests.{eqb-true}
use Rattle.laws.specs.Choice.{◌=?◌, ◌and◌, if◌then◌otherwise◌}
use Rattle.laws.proofs.Cases.{no_both, if_on, and_left, and_right}
use Rattle.record_exception.specs.declared.Level.{Level}
use Rattle.record_exception.specs.declared.Level.TheVariants.{Unbound, Bound, HungUp, Shut}
use Rattle.record_exception.specs.Channel.{is_bound, tried}
use Rattle.record_job.specs.declared.Job.{Job}
use Rattle.record_job.specs.Job.{killed, terminated}
use Rattle.record_process.specs.declared.Process.{Process}
use Rattle.record_process.specs.declared.Status.TheVariants.{Exited}
use Rattle.record_process.specs.Process.{with_status, ended}
use Rattle.record_thread.specs.declared.Thread.{Thread}
use Rattle.record_thread.specs.Thread.{no_thread, thread_of, kill}
use Rattle.record_token.specs.declared.SuspendToken.{SuspendToken}
use Rattle.records.specs.declared.tables.Tables.{Tables}
use Rattle.records.specs.Tables.{job_at, process_at, thread_at, put_job, put_process, put_thread}
use Rattle.records.specs.Tables.{put_token, with_threads}
use Rattle.model.specs.Job.{stop_threads, stop_in}
use Rattle.model.specs.SuspendToken.{change_in}
use Rattle.claims.specs.Separation.{Trip}
use Rattle.claims.proofs.Separation.Agree.{JobFits, ProcessFits, ThreadFits, TokenFits}
use Rattle.claims.proofs.Separation.Agree.{JobAlike, Alike, Agree, job_of_x, of_x_alike}
use Rattle.claims.proofs.Separation.Agree.{alike_by, alike_refl, job_refl}
use Rattle.claims.proofs.Separation.SideWrites.{put_token_one, put_token_two}
use Rattle.claims.proofs.Separation.Fits.{fits_killed, fits_terminated, fits_status}
use Rattle.claims.proofs.Separation.Fits.{fits_ended, fits_kill}
use Rattle.claims.proofs.Separation.Writes.{put_job_one, put_job_two, put_process_one}
use Rattle.claims.proofs.Separation.Writes.{put_process_two, put_thread_one, put_thread_two}
use Rattle.claims.proofs.Separation.Writes.{map_threads_one, map_threads_two}

-- a thread on a process's list
pub thread_of_listed : (v : Thread) (p : ℕ) → thread_of v p ≡ true → v.listed ≡ true
unfolding thread_of
thread_of_listed v p h = and_left v.listed (v.process =? p) h

pub thread_of_process : (v : Thread) (p : ℕ) → thread_of v p ≡ true → v.process ≡ p
unfolding thread_of
thread_of_process v p h = eqb-true v.process p (and_right v.listed (v.process =? p) h)

change_in_none : (f : Thread → Thread) (p : ℕ) → change_in f p no_thread ≡ no_thread
unfolding change_in thread_of ◌and◌ if◌then◌otherwise◌
change_in_none f p = refl

-- what is tried is as open as before
pub tried_open : (l : Level) → is_bound (tried l) ≡ is_bound l
tried_open Unbound = refl
tried_open Bound = refl
tried_open HungUp = refl
tried_open Shut = refl

module _ {x y : Trip} {s t : Tables} (r : Agree x y s t) where
  -- ---- Records of x, in one run ----------------------------------------------------------------

  pub job_one : (j : ℕ) → x.jobs j ≡ true → (v : Job) → JobFits x y j v → Agree x y
      (put_job s j v) t
  job_one j h v f = put_job_one r j v (job_of_x r.apart j h f (r.jobs j).fits₂)

  pub process_one : (p : ℕ) → x.processes p ≡ true → (v : Process) → ProcessFits x y p v →
      Agree x y (put_process s p v) t
  process_one p h v f = put_process_one r p v (of_x_alike h f (r.processes p).fits₂)

  pub thread_one : (n : ℕ) → x.threads n ≡ true → (v : Thread) → ThreadFits x y n v →
      Agree x y (put_thread s n v) t
  thread_one n h v f = put_thread_one r n v (of_x_alike h f (r.threads n).fits₂)

  pub token_one : (k : ℕ) → x.tokens k ≡ true → (v : SuspendToken) → TokenFits x y k v →
      Agree x y (put_token s k v) t
  token_one k h v f = put_token_one r k v (of_x_alike h f (r.tokens k).fits₂)

  -- ---- One record, in both runs ----------------------------------------------------------------

  pub job_both : (j : ℕ) (v : Job) → JobFits x y j v → Agree x y (put_job s j v) (put_job t j v)
  job_both j v f = put_job_two r j v v (job_refl v f)

  pub process_both : (p : ℕ) (v : Process) → ProcessFits x y p v →
      Agree x y (put_process s p v) (put_process t p v)
  process_both p v f = put_process_two r p v v (alike_refl v f)

  pub thread_both : (n : ℕ) (v : Thread) → ThreadFits x y n v →
      Agree x y (put_thread s n v) (put_thread t n v)
  thread_both n v f = put_thread_two r n v v (alike_refl v f)

  pub token_both : (k : ℕ) (v : SuspendToken) → TokenFits x y k v →
      Agree x y (put_token s k v) (put_token t k v)
  token_both k v f = put_token_two r k v v (alike_refl v f)

  -- ---- One change, in both runs ----------------------------------------------------------------

  pub process_two : (p : ℕ) (f : Process → Process) →
      ((q : Process) → ProcessFits x y p q → ProcessFits x y p (f q)) →
      Agree x y (put_process s p (f (process_at s p))) (put_process t p (f (process_at t p)))
  process_two p f g = put_process_two r p _ _ (alike_by f g (r.processes p))

  pub thread_two : (n : ℕ) (f : Thread → Thread) →
      ((v : Thread) → ThreadFits x y n v → ThreadFits x y n (f v)) →
      Agree x y (put_thread s n (f (thread_at s n))) (put_thread t n (f (thread_at t n)))
  thread_two n f g = put_thread_two r n _ _ (alike_by f g (r.threads n))

  -- ---- The stores of a cascade -----------------------------------------------------------------

  pub mark_one : (j : ℕ) → x.jobs j ≡ true → Agree x y (put_job s j (killed (job_at s j))) t
  mark_one j h = job_one j h _ (fits_killed (job_at s j) (r.jobs j).fits₁)

  pub mark_two : (j : ℕ) →
      Agree x y (put_job s j (killed (job_at s j))) (put_job t j (killed (job_at t j)))
  mark_two j =
      let a : JobAlike x y j (job_at s j) (job_at t j) = r.jobs j in
      put_job_two r j _ _
      (record {
        fits₁ = fits_killed (job_at s j) a.fits₁;
        fits₂ = fits_killed (job_at t j) a.fits₂;
        made = a.made;
        parent = a.parent;
        killed = λ h. refl;
        same = λ h. ap (λ (v : Job). killed v) (a.same h);
        open4 = a.open4;
        open5 = a.open5;
      })

  -- a job outside y: what the runs may differ in
  pub terminate_one : (j : ℕ) → y.jobs j ≡ false → (job_at s j).killed ≡ true →
      Agree x y (put_job s j (terminated (job_at s j))) t
  terminate_one j h k =
      let a : JobAlike x y j (job_at s j) (job_at t j) = r.jobs j in
      put_job_one r j _
      (record {
        fits₁ = fits_terminated (job_at s j) a.fits₁ k;
        fits₂ = a.fits₂;
        made = a.made;
        parent = a.parent;
        killed = a.killed;
        same = λ n. no_both n h;
        open4 = λ n e. no_both refl e;
        open5 = λ n e. no_both refl e;
      })

  pub terminate_two : (j : ℕ) → (job_at s j).killed ≡ true → (job_at t j).killed ≡ true →
      Agree x y (put_job s j (terminated (job_at s j))) (put_job t j (terminated (job_at t j)))
  terminate_two j k l =
      let a : JobAlike x y j (job_at s j) (job_at t j) = r.jobs j in
      put_job_two r j _ _
      (record {
        fits₁ = fits_terminated (job_at s j) a.fits₁ k;
        fits₂ = fits_terminated (job_at t j) a.fits₂ l;
        made = a.made;
        parent = a.parent;
        killed = a.killed;
        same = λ h. ap (λ (v : Job). terminated v) (a.same h);
        open4 = λ n e. no_both refl e;
        open5 = λ n e. no_both refl e;
      })

  pub exit_one : (p : ℕ) (code : ℤ) → x.processes p ≡ true →
      Agree x y (put_process s p (with_status (process_at s p) (Exited code))) t
  exit_one p code h = process_one p h _ (fits_status (process_at s p) (r.processes p).fits₁ _)

  pub exit_two : (p : ℕ) (code : ℤ) →
      Agree x y (put_process s p (with_status (process_at s p) (Exited code)))
      (put_process t p (with_status (process_at t p) (Exited code)))
  exit_two p code =
      process_two p (λ (q : Process). with_status q (Exited code)) (λ q f. fits_status q f _)

  pub end_one : (p : ℕ) → x.processes p ≡ true →
      Agree x y (put_process s p (ended (process_at s p))) t
  end_one p h = process_one p h _ (fits_ended (process_at s p) (r.processes p).fits₁)

  pub end_two : (p : ℕ) →
      Agree x y (put_process s p (ended (process_at s p))) (put_process t p (ended (process_at t p)))
  end_two p = process_two p ended fits_ended

  -- ---- Every thread of a process ---------------------------------------------------------------

  module _ (p : ℕ) (f : Thread → Thread)
      (g : (n : ℕ) (v : Thread) → ThreadFits x y n v → ThreadFits x y n (f v)) where
    changed : (n : ℕ) (v : Thread) → ThreadFits x y n v → ThreadFits x y n (change_in f p v)
    unfolding change_in
    changed n v k = if_on (ThreadFits x y n) _ _ _ (λ e. g n v k) (λ e. k)

    pub change_one : x.processes p ≡ true → Agree x y
        (with_threads s (map (change_in f p) s.threads)) t
    unfolding change_in
    change_one h =
        map_threads_one r (change_in f p) (change_in_none f p)
        λ n. if_on (λ (v : Thread). Alike (ThreadFits x y n) (x.threads n) v (thread_at t n)) _ _ _
        (λ e.
        let k : ThreadFits x y n (thread_at s n) = (r.threads n).fits₁ in
        let m : (thread_at s n).made ≡ true = k.listed_made (thread_of_listed (thread_at s n) p e) in
        of_x_alike (k.of_x m ∙ ap x.processes (thread_of_process (thread_at s n) p e) ∙ h)
        (g n (thread_at s n) k) (r.threads n).fits₂)
        (λ e. r.threads n)

    pub change_two : Agree x y (with_threads s (map (change_in f p) s.threads))
        (with_threads t (map (change_in f p) t.threads))
    change_two =
        map_threads_two r (change_in f p) (change_in_none f p)
        λ n. alike_by (change_in f p) (changed n) (r.threads n)

  pub stop_one : (p : ℕ) → x.processes p ≡ true → Agree x y (stop_threads s p) t
  unfolding stop_threads stop_in change_in
  stop_one p h = change_one p kill (λ n v k. fits_kill v k) h

  pub stop_two : (p : ℕ) → Agree x y (stop_threads s p) (stop_threads t p)
  unfolding stop_threads stop_in change_in
  stop_two p = change_two p kill (λ n v k. fits_kill v k)
