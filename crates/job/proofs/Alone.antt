-- A job that lists nothing and that no killed job lists: its kill stays with its record. Assumes nothing.
use Rattle.std.proofs.Common.{Option, Some, None}
use Prim.Native.Nat.{ℕ, zero, suc}
use native.Mathlib.Decide.{ℕ_discrete}
use mathlib.Core.Path.{◌≡◌, refl, sym, ap, ◌∙◌}
use mathlib.Core.Logic.{◌≢◌}
use mathlib.Core.Bool.{Bool, true, false}
use lib.Seq.{set-set}
use Rattle.laws.proofs.Cases.{no_both, by, and_left, and_right}
use borrow.Author.Tests.{not-true}
use Rattle.record_job.specs.declared.Job.{Job}
use Rattle.record_job.specs.Job.{killed, terminated, child_of}
use Rattle.lists.specs.Alone.{below_killed, kills_alone}
use Rattle.records.specs.declared.tables.Tables.{Tables}
use Rattle.records.specs.Tables.{job_at, process_at, put_job, with_jobs}
use Rattle.model.specs.Job.{lists_child, lists_process, job_empty, may_terminate, terminate_up, terminate_job}
use Rattle.model.specs.Job.{kill_job}
use Rattle.model.proofs.Lists.{empty_lists, job_empty_same, may_killed}
use Rattle.model.proofs.Live.{live_job}
use Rattle.model.proofs.TaskTables.{keep_job, put_job_else, put_job_made}
use Rattle.model.proofs.Steps.{Marked, kill_empty}
use Rattle.model.proofs.Upward.{up_orphan, up_stops, up_goes}

made_read : {v w : Job} {b : Bool} → v ≡ w → v.made ≡ b → w.made ≡ b
made_read e h = ap (λ (u : Job). u.made) (sym e) ∙ h

killed_read : {v w : Job} {b : Bool} → v ≡ w → v.killed ≡ b → w.killed ≡ b
killed_read e h = ap (λ (u : Job). u.killed) (sym e) ∙ h

twice : (t : Tables) (j : ℕ) (a b : Job) → put_job (put_job t j a) j b ≡ put_job t j b
unfolding put_job
twice t j a b = ap (with_jobs t) (set-set t.jobs j a b)

-- marked killed, it lists as much as before
lists_same : (t : Tables) (j : ℕ) → job_empty (put_job t j (killed (job_at t j))) j ≡ job_empty t j
unfolding child_of process_at put_job
lists_same t j =
    job_empty_same (put_job t j (killed (job_at t j))) t j
    (keep_job (λ v. child_of v j) t j (killed (job_at t j)) refl) (λ i. refl)

-- a terminated job that is its own parent terminates again, and stays
ends_again : (n : ℕ) (t : Tables) (j : ℕ) → (job_at t j).parent ≡ Some j →
    t ≡ put_job t j (terminated (job_at t j)) → t ≡ terminate_up n t j
unfolding terminate_up
ends_again zero t j a e = refl
ends_again (suc n) t j a e =
    by (may_terminate t j)
    (λ h. ends_again n t j a e ∙ up_goes n (suc n) refl t j (job_at t j) _ t refl refl e j a h)
    (λ h. up_stops n (suc n) refl t j (job_at t j) _ t refl refl e j a h)

-- a job whose parent is not killed terminates, and no more
module _ (t : Tables) (j : ℕ) (v : Job) (e : v ≡ job_at t j) (m : v.made ≡ true)
    (k : (p : ℕ) → v.parent ≡ Some p → p ≢ j → (job_at t p).killed ≡ false) where
  abbrev after : Tables
  after = put_job t j (terminated v)

  own_parent : v.parent ≡ Some j → (n : ℕ) → after ≡ terminate_up n after j
  own_parent a n =
      let here : job_at after j ≡ terminated v = put_job_made t j (terminated v) (made_read e m) in
      let same : after ≡ put_job after j (terminated (job_at after j)) =
      rw here (sym (twice t j (terminated v) (terminated v))) in
      ends_again n after j (ap (λ (u : Job). u.parent) here ∙ a) same

  below : (p : ℕ) → v.parent ≡ Some p → may_terminate after p ≡ true → Dec (p ≡ j) →
      after ≡ terminate_up 31 after p
  below p a h (yes d) =
      own_parent (a ∙ ap (λ (i : ℕ). Some i) d) 31 ∙ ap (terminate_up 31 after) (sym d)
  below p a h (no n) =
      no_both (killed_read (put_job_else t j p (terminated v) n) (may_killed after p h)) (k p a n)

  up : (q : Option ℕ) → v.parent ≡ q → after ≡ terminate_up 32 t j
  up None a = up_orphan 31 32 refl t j v (terminated v) after e refl refl a
  up (Some p) a =
      by (may_terminate after p)
      (λ h. below p a h (ℕ_discrete p j) ∙ up_goes 31 32 refl t j v (terminated v) after e refl refl p a h)
      (λ h. up_stops 31 32 refl t j v (terminated v) after e refl refl p a h)

  ends_alone_lem : after ≡ terminate_job t j
  unfolding terminate_job
  ends_alone_lem = up v.parent refl

module _ (t : Tables) (j : ℕ) (m : (job_at t j).made ≡ true) (k : (job_at t j).killed ≡ false)
    (b : below_killed t.jobs (job_at t j).parent ≡ false) where
  above_lives : (p : ℕ) → (job_at t j).parent ≡ Some p → p ≢ j →
      (job_at (put_job t j (killed (job_at t j))) p).killed ≡ false
  unfolding job_at
  above_lives p a n =
      killed_read (sym (put_job_else t j p (killed (job_at t j)) n)) (rw a at b)

  ends_at_once : lists_child t j ≡ false → lists_process t j ≡ false →
      put_job t j (terminated (killed (job_at t j))) ≡ kill_job t j
  ends_at_once c l =
      let v : Job = killed (job_at t j) in
      let u : Tables = put_job t j v in
      let marked : Marked t j u = record { live = live_job (job_at t j) m k; after = refl } in
      sym (twice t j v (terminated v)) ∙ ends_alone_lem u j v (sym (put_job_made t j v m)) m above_lives
      ∙ kill_empty t j u marked (lists_same t j ∙ empty_lists t j c l)

pub kills_alone_lem : (t : Tables) (j : ℕ) → (job_at t j).made ≡ true → (job_at t j).killed ≡ false →
    kills_alone t.jobs t.processes j ≡ true → put_job t j (terminated (killed (job_at t j))) ≡ kill_job t j
unfolding kills_alone lists_child lists_process job_at
kills_alone_lem t j m k a =
    let l = and_left _ _ a in
    ends_at_once t j m k (not-true _ (and_right _ _ a)) (not-true _ (and_left _ _ l)) (not-true _ (and_right _ _ l))
