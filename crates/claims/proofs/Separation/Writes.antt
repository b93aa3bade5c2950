-- The relation after a store: of one run where the record is related to what the other run has,
-- and of both runs where the two records are related. Assumes nothing.
use Prim.Native.Nat.{ℕ}
use mathlib.Core.Path.{◌≡◌, sym, ◌∙◌, subst}
use mathlib.Core.List.{map}
use Rattle.record_job.specs.declared.Job.{Job}
use Rattle.record_process.specs.declared.Process.{Process}
use Rattle.record_thread.specs.declared.Thread.{Thread}
use Rattle.record_thread.specs.Thread.{no_thread}
use Rattle.records.specs.declared.tables.Tables.{Tables}
use Rattle.records.specs.Tables.{job_at, own_at, inherited_at, process_at, fixed_at, thread_at, token_at}
use Rattle.records.specs.Tables.{put_job, put_process, put_thread, with_threads}
use Rattle.claims.specs.Separation.{Trip}
use Rattle.model.proofs.TaskTables.{on_job, on_job₂, on_process, on_process₂, on_thread}
use Rattle.model.proofs.TaskTables.{on_thread₂}
use Rattle.claims.proofs.ThreadMaps.{thread_at_map}
use Rattle.claims.proofs.Lengths.{jobs_long, processes_long, threads_long, put_job_lengths}
use Rattle.claims.proofs.Lengths.{put_process_lengths, put_thread_lengths, map_threads_lengths}
use Rattle.claims.proofs.Separation.Agree.{JobAlike, ProcessFits, ThreadFits, Alike, Agree}

module _ {x y : Trip} {s t : Tables} (r : Agree x y s t) where
  -- ---- jobs ---------------------------------------------------------------------------------

  pub put_job_one : (i : ℕ) (v : Job) → JobAlike x y i v (job_at t i) →
      Agree x y (put_job s i v) t
  unfolding own_at inherited_at process_at fixed_at thread_at token_at put_job
  put_job_one i v h =
      record {
        apart = r.apart;
        long = put_job_lengths s i v ∙ r.long;
        jobs = λ k. on_job (λ u. JobAlike x y k u (job_at t k)) s i k v
            (λ e. subst (λ (m : ℕ). JobAlike x y m v (job_at t m)) (sym e) h) (r.jobs k);
        own = r.own;
        inherited = r.inherited;
        processes = r.processes;
        fixed = r.fixed;
        threads = r.threads;
        tokens = r.tokens;
      }

  pub put_job_two : (i : ℕ) (v w : Job) → JobAlike x y i v w →
      Agree x y (put_job s i v) (put_job t i w)
  unfolding own_at inherited_at process_at fixed_at thread_at token_at put_job
  put_job_two i v w h =
      record {
        apart = r.apart;
        long = put_job_lengths s i v ∙ r.long ∙ sym (put_job_lengths t i w);
        jobs = λ k. on_job₂ (λ u z. JobAlike x y k u z) s t i k v w
            (jobs_long s t r.long) (λ e. subst (λ (m : ℕ). JobAlike x y m v w) (sym e) h)
            (r.jobs k);
        own = r.own;
        inherited = r.inherited;
        processes = r.processes;
        fixed = r.fixed;
        threads = r.threads;
        tokens = r.tokens;
      }

  -- ---- processes ----------------------------------------------------------------------------

  pub put_process_one : (i : ℕ) (v : Process) → Alike (ProcessFits x y i) (x.processes i) v
      (process_at t i) →
      Agree x y (put_process s i v) t
  unfolding job_at own_at inherited_at fixed_at thread_at token_at put_process
  put_process_one i v h =
      record {
        apart = r.apart;
        long = put_process_lengths s i v ∙ r.long;
        jobs = r.jobs;
        own = r.own;
        inherited = r.inherited;
        processes =
            λ k. on_process (λ u. Alike (ProcessFits x y k) (x.processes k) u
            (process_at t k)) s i k v
            (λ e. subst (λ (m : ℕ). Alike (ProcessFits x y m) (x.processes m) v (process_at t m))
            (sym e) h) (r.processes k);
        fixed = r.fixed;
        threads = r.threads;
        tokens = r.tokens;
      }

  pub put_process_two : (i : ℕ) (v w : Process) → Alike (ProcessFits x y i) (x.processes i) v w →
      Agree x y (put_process s i v) (put_process t i w)
  unfolding job_at own_at inherited_at fixed_at thread_at token_at put_process
  put_process_two i v w h =
      record {
        apart = r.apart;
        long = put_process_lengths s i v ∙ r.long ∙ sym (put_process_lengths t i w);
        jobs = r.jobs;
        own = r.own;
        inherited = r.inherited;
        processes = λ k. on_process₂ (λ u z. Alike (ProcessFits x y k)
            (x.processes k) u z) s t i k v w
            (processes_long s t r.long)
            (λ e. subst (λ (m : ℕ). Alike (ProcessFits x y m) (x.processes m) v w) (sym e) h)
            (r.processes k);
        fixed = r.fixed;
        threads = r.threads;
        tokens = r.tokens;
      }

  -- ---- threads ------------------------------------------------------------------------------

  pub put_thread_one : (i : ℕ) (v : Thread) → Alike (ThreadFits x y i) (x.threads i) v
      (thread_at t i) →
      Agree x y (put_thread s i v) t
  unfolding job_at own_at inherited_at process_at fixed_at token_at put_thread
  put_thread_one i v h =
      record {
        apart = r.apart;
        long = put_thread_lengths s i v ∙ r.long;
        jobs = r.jobs;
        own = r.own;
        inherited = r.inherited;
        processes = r.processes;
        fixed = r.fixed;
        threads = λ k. on_thread (λ u. Alike (ThreadFits x y k) (x.threads k) u
            (thread_at t k)) s i k v
            (λ e. subst (λ (m : ℕ). Alike (ThreadFits x y m) (x.threads m) v (thread_at t m))
            (sym e) h) (r.threads k);
        tokens = r.tokens;
      }

  pub put_thread_two : (i : ℕ) (v w : Thread) → Alike (ThreadFits x y i) (x.threads i) v w →
      Agree x y (put_thread s i v) (put_thread t i w)
  unfolding job_at own_at inherited_at process_at fixed_at token_at put_thread
  put_thread_two i v w h =
      record {
        apart = r.apart;
        long = put_thread_lengths s i v ∙ r.long ∙ sym (put_thread_lengths t i w);
        jobs = r.jobs;
        own = r.own;
        inherited = r.inherited;
        processes = r.processes;
        fixed = r.fixed;
        threads = λ k. on_thread₂ (λ u z. Alike (ThreadFits x y k) (x.threads k) u z) s t i k v w
            (threads_long s t r.long)
            (λ e. subst (λ (m : ℕ). Alike (ThreadFits x y m) (x.threads m) v w) (sym e) h)
            (r.threads k);
        tokens = r.tokens;
      }

  -- ---- every thread -------------------------------------------------------------------------

  module _ (f : Thread → Thread) (z : f no_thread ≡ no_thread) where
    pub map_threads_one : ((n : ℕ) →
        Alike (ThreadFits x y n) (x.threads n) (f (thread_at s n)) (thread_at t n)) →
        Agree x y (with_threads s (map f s.threads)) t
    unfolding job_at own_at inherited_at process_at fixed_at token_at
    map_threads_one h =
        record {
          apart = r.apart;
          long = map_threads_lengths s f ∙ r.long;
          jobs = r.jobs;
          own = r.own;
          inherited = r.inherited;
          processes = r.processes;
          fixed = r.fixed;
          threads =
              λ n. subst (λ (v : Thread). Alike (ThreadFits x y n) (x.threads n) v (thread_at t n))
              (sym (thread_at_map f z s n)) (h n);
          tokens = r.tokens;
        }

    pub map_threads_two : ((n : ℕ) →
        Alike (ThreadFits x y n) (x.threads n) (f (thread_at s n)) (f (thread_at t n))) →
        Agree x y (with_threads s (map f s.threads)) (with_threads t (map f t.threads))
    unfolding job_at own_at inherited_at process_at fixed_at token_at
    map_threads_two h =
        record {
          apart = r.apart;
          long = map_threads_lengths s f ∙ r.long ∙ sym (map_threads_lengths t f);
          jobs = r.jobs;
          own = r.own;
          inherited = r.inherited;
          processes = r.processes;
          fixed = r.fixed;
          threads = λ n. subst (λ (v : Thread). Alike (ThreadFits x y n) (x.threads n) v
              (thread_at (with_threads t (map f t.threads)) n)) (sym (thread_at_map f z s n))
              (subst (Alike (ThreadFits x y n) (x.threads n) (f (thread_at s n)))
              (sym (thread_at_map f z t n)) (h n));
          tokens = r.tokens;
        }
