-- The order of handlers and what becomes of the thread, in both runs: one handler, one answer.
-- Assumes nothing.
use Rattle.std.proofs.Common.{Option, Some, None}
use Prim.Native.Nat.{ℕ, zero, suc}
use mathlib.Core.Path.{◌≡◌, refl, sym, ap, subst}
use mathlib.Core.Bool.{Bool, false, not}
use lib.IntN.{pos}
use Rattle.laws.specs.Choice.{◌=?◌, ◌or◌}
use Rattle.laws.proofs.Cases.{ite_two, if_two}
use Rattle.record_exception.specs.declared.Place.{Place}
use Rattle.record_exception.specs.declared.Place.TheVariants.{Debugger, OwnThread, OwnProcess}
use Rattle.record_exception.specs.declared.Place.TheVariants.{SecondChance, OfJob, OfJobDebugger}
use Rattle.record_exception.specs.declared.Place.TheVariants.{Exiting}
use Rattle.record_exception.specs.declared.Exception.{Exception}
use Rattle.record_exception.specs.Channel.{is_bound}
use Rattle.record_exception.specs.Exception.{level_of, exception_at}
use Rattle.record_process.specs.Process.{KILL_CODE}
use Rattle.record_thread.specs.declared.Waiting.TheVariants.{InException}
use Rattle.record_thread.specs.declared.Thread.{Thread}
use Rattle.record_thread.specs.Thread.{DYING, BLOCKED_EXCEPTION, waits, end_wait}
use Rattle.records.specs.declared.tables.Tables.{Tables}
use Rattle.reply.specs.declared.Fields.TheVariants.{OwnerField}
use Rattle.reply.specs.Reply.{reply}
use Rattle.records.specs.Tables.{job_at, thread_at}
use Rattle.model.specs.declared.Route.{Route}
use Rattle.model.specs.declared.Route.TheVariants.{Ordinary, JobDebuggers, DebuggerOnly}
use Rattle.model.specs.declared.Route.TheVariants.{ToExiting, NoType}
use Rattle.model.specs.declared.Search.{Search}
use Rattle.model.specs.Exception.{route_of, is_synth, process_of, owner_of, own_job, level_at}
use Rattle.model.specs.Exception.{pass_over, try_at, search_up, from_jobs, from_second_chance}
use Rattle.model.specs.Exception.{from_process, from_thread, from_debugger, first_handler}
use Rattle.model.specs.Exception.{next_handler, over_at_first, over_tables, unhandled, deliver}
use Rattle.model.specs.Exception.{delivered, raise_exiting, raise, close}
use Rattle.model.specs.Job.{exit_process}
use Rattle.model.specs.Step.{shown}
use Rattle.claims.specs.Reachable.{here}
use Rattle.claims.specs.Separation.{Trip}
use Rattle.claims.proofs.Separation.Agree.{Agree, up_not_x}
use Rattle.claims.proofs.Separation.Fits.{fits_waits, fits_end_wait}
use Rattle.claims.proofs.Separation.Stores.{thread_two}
use Rattle.claims.proofs.Separation.UpTwo.{on_parent_two}
use Rattle.claims.proofs.Separation.CascadeTwo.{exit_process_two}
use Rattle.claims.proofs.Separation.Frames.{pass_over_frame, RunsUp, runs_frame, runs_up}
use Rattle.claims.proofs.Separation.Replied.{Replied}
use Rattle.claims.proofs.Separation.SearchTwo.{Beside, Runs, same_thread, same_process_of}
use Rattle.claims.proofs.Separation.SearchTwo.{same_own, open_same, pass_two}

-- two searches come to one handler, and leave related tables
record Found (x y : Trip) (n : ℕ) (a b : Search) : Type 0 where
  pub at : a.at ≡ b.at
  pub rel : Beside x y n a.tables b.tables

-- all jobs from the one whose handler closed run in both
abbrev pub RunsFrom : Trip → Tables → Tables → Place → Type 0
RunsFrom x s t Debugger = Unit {0}
RunsFrom x s t OwnThread = Unit {0}
RunsFrom x s t OwnProcess = Unit {0}
RunsFrom x s t SecondChance = Unit {0}
RunsFrom x s t (OfJob j) = (x.jobs j ≡ false) × RunsUp s j × RunsUp t j
RunsFrom x s t (OfJobDebugger j) = Unit {0}
RunsFrom x s t Exiting = Unit {0}

module _ {x y : Trip} {n : ℕ} where
  try_at_two : {s t : Tables} → Beside x y n s t → (place : Place) → Runs x s t place →
      (k l : Tables → Search) →
      (Beside x y n (pass_over s n place) (pass_over t n place) →
      Found x y n (k (pass_over s n place)) (l (pass_over t n place))) →
      Found x y n (try_at s n place k) (try_at t n place l)
  unfolding try_at
  try_at_two b place h k l f =
      ite_two (Found x y n) _ _ _ _ _ _ (open_same b place h)
      (λ d e. record { at = refl; rel = b })
      (λ d e. f (pass_two b place))

  search_up_two : (m : ℕ) (place : ℕ → Place) →
      ((s t : Tables) (j : ℕ) → x.jobs j ≡ false → (job_at s j).terminated ≡ false →
      (job_at t j).terminated ≡ false → Runs x s t (place j)) →
      (s t : Tables) → Beside x y n s t → (j : ℕ) → x.jobs j ≡ false → RunsUp s j → RunsUp t j →
      Found x y n (search_up m place s n j) (search_up m place t n j)
  unfolding search_up
  search_up_two zero place o s t b j h q r = record { at = refl; rel = b }
  search_up_two (suc m) place o s t b j h q r =
      try_at_two b (place j) (o s t j h (q j here) (r j here)) _ _
      λ z. on_parent_two (Found x y n) (job_at (pass_over s n (place j)) j).parent
      (job_at (pass_over t n (place j)) j).parent _ _ _ _ ((z.rel.jobs j).parent h)
      (λ d e. record { at = refl; rel = z })
      (λ i d e. search_up_two m place o _ _ z i (up_not_x (z.rel.jobs j).fits₁ i h d)
      (runs_up d (runs_frame (pass_over_frame s n (place j)) j q))
      (runs_up e (runs_frame (pass_over_frame t n (place j)) j r)))

  -- from the own job upward
  own_up_two : (place : ℕ → Place) →
      ((s t : Tables) (j : ℕ) → x.jobs j ≡ false → (job_at s j).terminated ≡ false →
      (job_at t j).terminated ≡ false → Runs x s t (place j)) →
      (s t : Tables) → Beside x y n s t →
      Found x y n (search_up 32 place s n (own_job s n)) (search_up 32 place t n (own_job t n))
  own_up_two place o s t b =
      subst (λ (j : ℕ). Found x y n (search_up 32 place s n (own_job s n))
      (search_up 32 place t n j)) (same_own b)
      (search_up_two 32 place o s t b (own_job s n) b.job b.runs₁
      (subst (RunsUp t) (sym (same_own b)) b.runs₂))

  from_jobs_two : (s t : Tables) → Beside x y n s t → Found x y n (from_jobs s n) (from_jobs t n)
  unfolding from_jobs
  from_jobs_two s t b = own_up_two OfJob (λ u w j h q r. (h, q, r)) s t b

  module _ (second : Bool) where
    from_second_chance_two : (s t : Tables) → Beside x y n s t →
        Found x y n (from_second_chance s n second) (from_second_chance t n second)
    unfolding from_second_chance
    from_second_chance_two s t b =
        if_two (Found x y n) second second _ _ _ _ refl
        (λ d e. try_at_two b SecondChance tt _ _ (from_jobs_two _ _)) (λ d e. from_jobs_two s t b)

    from_process_two : (s t : Tables) → Beside x y n s t →
        Found x y n (from_process s n second) (from_process t n second)
    unfolding from_process
    from_process_two s t b = try_at_two b OwnProcess tt _ _ (from_second_chance_two _ _)

    from_thread_two : (s t : Tables) → Beside x y n s t →
        Found x y n (from_thread s n second) (from_thread t n second)
    unfolding from_thread
    from_thread_two s t b = try_at_two b OwnThread tt _ _ (from_process_two _ _)

    from_debugger_two : (s t : Tables) → Beside x y n s t →
        Found x y n (from_debugger s n second) (from_debugger t n second)
    unfolding from_debugger
    from_debugger_two s t b = try_at_two b Debugger tt _ _ (from_thread_two _ _)

  first_two : (route : Route) (s t : Tables) → Beside x y n s t →
      Found x y n (first_handler route s n) (first_handler route t n)
  unfolding first_handler
  first_two Ordinary s t b = from_debugger_two false s t b
  first_two JobDebuggers s t b = own_up_two OfJobDebugger (λ u w j h q r. (h, q, r)) s t b
  first_two DebuggerOnly s t b = try_at_two b Debugger tt _ _ (λ z. record { at = refl; rel = z })
  first_two ToExiting s t b = record { at = refl; rel = b }
  first_two NoType s t b = record { at = refl; rel = b }

  next_two : (place : Place) (s t : Tables) → RunsFrom x s t place → Beside x y n s t →
      (e : Exception) → Found x y n (next_handler place s n e) (next_handler place t n e)
  unfolding next_handler
  next_two Debugger s t h b e =
      if_two (Found x y n) (e.kind =? 0x8008) (e.kind =? 0x8008) _ _ _ _ refl
      (λ c d. record { at = refl; rel = b }) (λ c d. from_thread_two e.second s t b)
  next_two OwnThread s t h b e = from_process_two e.second s t b
  next_two OwnProcess s t h b e = from_second_chance_two e.second s t b
  next_two SecondChance s t h b e = from_jobs_two s t b
  next_two (OfJob j) s t h b e =
      on_parent_two (Found x y n) (job_at s j).parent (job_at t j).parent _ _ _ _
      ((b.rel.jobs j).parent h.0) (λ c d. record { at = refl; rel = b })
      (λ i c d. search_up_two 32 OfJob (λ u w k g q r. (g, q, r)) s t b i
      (up_not_x (b.rel.jobs j).fits₁ i h.0 c) (runs_up c h.1) (runs_up d h.2))
  next_two (OfJobDebugger j) s t h b e = record { at = refl; rel = b }
  next_two Exiting s t h b e = record { at = refl; rel = b }

  -- ---- What becomes of the thread ------------------------------------------------------------

  module _ (s t : Tables) (b : Beside x y n s t) where
    over_two : Agree x y (over_tables s n) (over_tables t n)
    over_two = thread_two b.rel n end_wait (λ v f. fits_end_wait v f)

    unhandled_two : (kind : ℕ) → Agree x y (unhandled s n kind) (unhandled t n kind)
    unfolding unhandled
    unhandled_two kind =
        if_two (Agree x y) (is_synth kind) (is_synth kind) _ _ _ _ refl (λ c d. over_two)
        (λ c d. subst
        (λ (p : ℕ). Agree x y (exit_process (over_tables s n) (process_of s n) KILL_CODE)
        (exit_process (over_tables t n) p KILL_CODE)) (same_process_of b)
        (exit_process_two _ _ over_two (process_of s n) KILL_CODE b.process))

    owner_same : (place : Place) → owner_of s n place ≡ owner_of t n place
    unfolding owner_of
    owner_same Debugger = same_process_of b
    owner_same OwnThread = refl
    owner_same OwnProcess = same_process_of b
    owner_same SecondChance = same_process_of b
    owner_same (OfJob j) = refl
    owner_same (OfJobDebugger j) = refl
    owner_same Exiting = same_process_of b

    deliver_two : (at : Option Place) (kind : ℕ) (second : Bool) →
        Replied x y (deliver at s n kind second) (deliver at t n kind second)
    unfolding deliver reply
    deliver_two None kind second = record { shows = refl; rel = unhandled_two kind }
    deliver_two (Some place) kind second =
        record {
          shows = ap (λ (i : ℕ). shown (reply t (pos (level_of place)) (OwnerField i)))
              (owner_same place);
          rel = thread_two b.rel n
              (λ (v : Thread). waits v BLOCKED_EXCEPTION
              (InException (exception_at kind place second)))
              (λ v f. fits_waits v f _ _);
        }

    raise_exiting_two : (kind : ℕ) → Replied x y (raise_exiting s n kind) (raise_exiting t n kind)
    unfolding raise_exiting reply
    raise_exiting_two kind =
        if_two (Replied x y) (not (is_bound (level_at s n Exiting)))
        (not (is_bound (level_at t n Exiting)))
        _ _ _ _ (ap not (open_same b Exiting tt))
        (λ c d. record { shows = refl; rel = (pass_two b Exiting).rel })
        λ c d. if_two (Replied x y) (thread_at s n).killed (thread_at t n).killed _ _ _ _
        (ap (λ (v : Thread). v.killed) (same_thread b))
        (λ e f. record { shows = refl; rel = b.rel })
        (λ e f. record {
          shows = ap (λ (i : ℕ). shown (reply t (pos 1) (OwnerField i))) (same_process_of b);
          rel = thread_two b.rel n
              (λ (v : Thread). waits v v.state (InException (exception_at kind Exiting false)))
              (λ v f. fits_waits v f _ _);
        })

  delivered_two : (a c : Search) → Found x y n a c → (kind : ℕ) (second : Bool) →
      Replied x y (delivered a n kind second) (delivered c n kind second)
  delivered_two a c f kind second =
      subst (λ (h : Option Place). Replied x y (delivered a n kind second)
      (deliver h c.tables n kind second))
      f.at (deliver_two a.tables c.tables f.rel a.at kind second)

  pub raise_two : (s t : Tables) → Beside x y n s t → (kind : ℕ) →
      Replied x y (raise s n kind) (raise t n kind)
  unfolding raise reply
  raise_two s t b kind =
      if_two (Replied x y) (kind =? 0x8108) (kind =? 0x8108) _ _ _ _ refl
      (λ c d. raise_exiting_two s t b kind)
      λ c d. if_two (Replied x y) ((thread_at s n).state =? DYING)
      ((thread_at t n).state =? DYING) _ _ _ _
      (ap (λ (v : Thread). v.state =? DYING) (same_thread b))
      (λ e f. record { shows = refl; rel = b.rel })
      (λ e f. delivered_two _ _ (first_two (route_of kind) s t b) kind false)

  pub close_two : (s t : Tables) → Beside x y n s t → (e : Exception) → RunsFrom x s t e.place →
      Replied x y (close s n e) (close t n e)
  unfolding close reply
  close_two s t b e h =
      if_two (Replied x y) (e.handled or over_at_first e.place)
      (e.handled or over_at_first e.place)
      _ _ _ _ refl (λ c d. record { shows = refl; rel = over_two s t b })
      (λ c d. delivered_two _ _ (next_two e.place s t h b e) e.kind e.second)
