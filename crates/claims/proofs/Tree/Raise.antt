-- Raising an exception and closing one keep `Tree`. Assumes nothing.
use Rattle.std.proofs.Common.{Option, Some, None}
use Prim.Native.Nat.{ℕ}
use mathlib.Core.Path.{◌≡◌, refl, ap, ◌∙◌}
use mathlib.Core.Bool.{Bool, true, false, not}
use borrow.Author.Tests.{not-true, eqb-true}
use lib.IntN.{ℤ}
use native.Mathlib.Omega.{arith}
use Rattle.laws.specs.Choice.{◌=?◌}
use Rattle.laws.proofs.Cases.{by, no_both, if_on, and_left, and_right}
use Rattle.record_exception.specs.declared.Place.{Place}
use Rattle.record_exception.specs.declared.Place.TheVariants.{Exiting}
use Rattle.record_exception.specs.declared.Exception.{Exception}
use Rattle.record_exception.specs.Exception.{exception_at}
use Rattle.record_job.specs.declared.Job.{Job}
use Rattle.record_thread.specs.declared.Waiting.{Waiting}
use Rattle.record_thread.specs.declared.Waiting.TheVariants.{NotWaiting, InWait, InException}
use Rattle.record_thread.specs.declared.Thread.{Thread}
use Rattle.record_thread.specs.Thread.{DEAD, BLOCKED_EXCEPTION, is_waiting, is_live, is_free, waits}
use Rattle.record_thread.specs.Thread.{end_wait}
use Rattle.records.specs.declared.tables.Tables.{Tables}
use Rattle.reply.specs.declared.Fields.{Fields}
use Rattle.reply.specs.Reply.{reply}
use Rattle.records.specs.Tables.{thread_at, put_thread}
use Rattle.model.specs.declared.Search.{Search}
use Rattle.model.specs.Exception.{process_of, first_handler, next_handler, over_tables}
use Rattle.model.specs.Exception.{unhandled, deliver, delivered, raise_exiting, raise, close}
use Rattle.model.specs.Exception.{route_of, own_job}
use Rattle.claims.specs.Reachable.{AtOrAbove, Tree}
use Rattle.claims.proofs.Found.{After}
use Rattle.claims.proofs.Searches.{Found, first_found, next_found}
use Rattle.claims.proofs.Tree.Parts.{good_thread}
use Rattle.claims.proofs.Tree.Over.{above_over}
use Rattle.claims.proofs.Tree.Puts.{put_thread_tree}
use Rattle.claims.proofs.Tree.Threads.{Placed, placed_at, waits_good, end_wait_good}
use Rattle.claims.proofs.Tree.Cascade.{tree_exit}
use Rattle.claims.proofs.Tree.Search.{AboveOwn, Searched, Passed, passed_none, own_job_same}
use Rattle.claims.proofs.Tree.Search.{at_own, searching, pass_over_tree}

-- ---- A thread that can act, and one that waits -----------------------------------------------

idle_waiting : (w : Waiting) → not (is_waiting w) ≡ true → w ≡ NotWaiting
idle_waiting NotWaiting e = refl
idle_waiting InWait e = no_both e refl
idle_waiting (InException x) e = no_both e refl

module _ (v : Thread) (f : is_free v ≡ true) where
  pub free_started : v.started ≡ true
  unfolding is_free is_live
  free_started = and_left v.started _ (and_left (is_live v) _ f)

  pub free_alive : (v.state =? DEAD) ≡ false
  unfolding is_free is_live
  free_alive = not-true _ (and_right v.started _ (and_left (is_live v) _ f))

  pub free_idle : v.waiting ≡ NotWaiting
  unfolding is_free
  free_idle = idle_waiting v.waiting (and_right (is_live v) _ f)

-- a thread in a wait is not Dead
pub waiting_alive : {t : Tables} → Tree t → (n : ℕ) (w : Waiting) → (thread_at t n).waiting ≡ w
    → is_waiting w ≡ true → ((thread_at t n).state =? DEAD) ≡ false
waiting_alive {t} T n w e h =
    by ((thread_at t n).state =? DEAD)
    (λ d. no_both (ap (λ (x : Waiting). is_waiting x) e ∙ h)
    (ap (λ (x : Waiting). is_waiting x) (T.dead_idle n (eqb-true (thread_at t n).state DEAD d))))
    (λ d. d)

end_wait_made : (v : Thread) → (end_wait v).made ≡ v.made
unfolding end_wait
end_wait_made v = if_on (λ (w : Thread). w.made ≡ v.made) _ _ _ (λ e. refl) (λ e. refl)

-- ---- What becomes of the thread --------------------------------------------------------------

pub reply_on : {P : Tables → Type 0} (t : Tables) (c : ℤ) (f : Fields) → P t
    → After P (reply t c f)
unfolding reply
reply_on t c f x = record { tables = x }

module _ {t : Tables} (T : Tree t) (n : ℕ) (m : (thread_at t n).made ≡ true)
    (d : ((thread_at t n).state =? DEAD) ≡ false) where
  pub tree_over : Tree (over_tables t n)
  tree_over =
      put_thread_tree t T n _ (end_wait_good (good_thread T n) m d)
      (λ h. end_wait_made (thread_at t n) ∙ m)

  pub tree_waits : (state : ℕ) (w : Waiting) → (state =? DEAD) ≡ false
      → Placed t (process_of t n) w → Tree (put_thread t n (waits (thread_at t n) state w))
  tree_waits state w e x =
      put_thread_tree t T n _ (waits_good (good_thread T n) state w m d e x) (λ h. h)

  unhandled_tree : (kind : ℕ) → Tree (unhandled t n kind)
  unfolding unhandled
  unhandled_tree kind =
      if_on Tree _ _ _ (λ e. tree_over) (λ e. tree_exit tree_over (process_of t n) _)

  deliver_tree : (h : Option Place) (kind : ℕ) (second : Bool)
      → ((p : Place) → h ≡ Some p → AboveOwn t n p) → After Tree (deliver h t n kind second)
  unfolding deliver
  deliver_tree None kind second a = reply_on _ _ _ (unhandled_tree kind)
  deliver_tree (Some p) kind second a =
      let x : AboveOwn t n p = a p refl in
      reply_on _ _ _ (tree_waits BLOCKED_EXCEPTION _ refl
      (placed_at (exception_at kind p second) x.handler x.debugger))

module _ {t : Tables} (T : Tree t) (n : ℕ) (m : (thread_at t n).made ≡ true)
    (d : ((thread_at t n).state =? DEAD) ≡ false) where
  -- what a search found
  found_tree : (s : Search) (kind : ℕ) (second : Bool) → Found (Searched t) (AboveOwn t n) s
      → After Tree (delivered s n kind second)
  found_tree s kind second f =
      let u : Tables = s.tables in
      let g : Passed t u = f.left.passed in
      let e : own_job u n ≡ own_job t n = own_job_same g n in
      let over : (j : ℕ) → AtOrAbove t j (own_job t n) → AtOrAbove u j (own_job u n) =
      λ j a. rw e (above_over (λ i p h. ap (λ (v : Job). v.parent) (g.jobs i) ∙ h) a) in
      deliver_tree f.left.tree n (ap (λ (v : Thread). v.made) (g.threads n) ∙ m)
      (ap (λ (v : Thread). v.state =? DEAD) (g.threads n) ∙ d) s.at kind second
      (λ p h. record {
        handler = λ j q. over j ((f.place p h).handler j q);
        debugger = λ j q. over j ((f.place p h).debugger j q);
      })

  pub raise_tree : (kind : ℕ) → After Tree (raise t n kind)
  unfolding raise raise_exiting
  raise_tree kind =
      if_on (After Tree) (kind =? 0x8108) _ _
      (λ e. if_on (After Tree) _ _ _ (λ h. reply_on _ _ _ (pass_over_tree t T n Exiting))
      (λ h. if_on (After Tree) _ _ _ (λ k. reply_on _ _ _ T)
      (λ k. reply_on _ _ _ (tree_waits T n m d (thread_at t n).state _ d
      (let x : AboveOwn t n Exiting = at_own t n Exiting (omega arith) in
      placed_at (exception_at kind Exiting false) x.handler x.debugger)))))
      (λ e. if_on (After Tree) _ _ _ (λ h. reply_on _ _ _ T)
      (λ h. found_tree (first_handler (route_of kind) t n) kind false
      (first_found n (Searched t) (AboveOwn t n) (searching t n) (route_of kind) t
      (record { tree = T; passed = passed_none t }))))

  pub close_tree : (e : Exception) → (thread_at t n).waiting ≡ InException e
      → After Tree (close t n e)
  unfolding close
  close_tree e w =
      if_on (After Tree) _ _ _ (λ h. reply_on _ _ _ (tree_over T n m d))
      (λ h. found_tree (next_handler e.place t n e) e.kind e.second
      (next_found n (Searched t) (AboveOwn t n) (searching t n) e.place t e
      (record { tree = T; passed = passed_none t })
      (record {
        handler = λ j. T.handler_above n j e w;
        debugger = λ j. T.debugger_above n j e w;
      })))
