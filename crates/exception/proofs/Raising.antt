-- How 14 and 15 meet their definitions: `raising` is named on the two calls.
--     stays                        the records stay: the tables are as they were
--     raised_is, closed_is         what an accepted call leaves, stored, is what the model says of it
--     raised_past, closed_past     the same where the process is one never made
-- Assumes nothing.
use Rattle.std.proofs.Common.{Ok, Err}
use Prim.Native.Nat.{ℕ, ◌%◌, ◌<◌, ◌≤◌}
use native.Mathlib.Omega.{arith}
use mathlib.Core.Path.{◌≡◌, refl, sym, ap, ◌∙◌, subst}
use mathlib.Core.Bool.{Bool, true, false}
use mathlib.Core.List.{List}
use lib.IntN.{pos}
use borrow.Author.Tests.{eqb-true}
use Rattle.laws.specs.Choice.{◌=?◌, ◌or◌, ite, if◌then◌otherwise◌}
use Rattle.laws.proofs.Cases.{by, if_on}
use Rattle.laws.proofs.Flow.{first, second}
use Rattle.error.specs.declared.Refusal.{Refusal}
use Rattle.error.specs.Numbers.{STOP, number_of}
use Rattle.record_exception.specs.declared.Place.TheVariants.{Exiting}
use Rattle.record_exception.specs.declared.Exception.{Exception}
use Rattle.record_exception.specs.Channel.{is_bound}
use Rattle.record_job.specs.declared.Job.{Job}
use Rattle.record_process.specs.declared.Process.{Process}
use Rattle.record_process.specs.Process.{no_process}
use Rattle.record_thread.specs.declared.Thread.{Thread}
use Rattle.record_thread.specs.Thread.{DYING, end_wait}
use Rattle.records.specs.declared.tables.Tables.{Tables}
use Rattle.records.specs.Tables.{Sized, process_at, thread_at, put_process, put_thread}
use Rattle.records.specs.Tables.{with_jobs}
use Rattle.records.proofs.Kept.{process_kept, thread_kept, process_at_lem, thread_at_lem, thread_looked_up_at}
use Rattle.model.proofs.Answering.{answering}
use Rattle.reply.specs.declared.Fields.TheVariants.{OwnerField}
use Rattle.reply.specs.declared.Reply.{Reply}
use Rattle.reply.specs.Reply.{reply, answered}
use Rattle.model.specs.declared.Route.{Route}
use Rattle.model.specs.declared.Route.TheVariants.{Ordinary, JobDebuggers, DebuggerOnly, NoType}
use Rattle.model.specs.declared.Search.{Search}
use Rattle.model.specs.Exception as model
use Rattle.model.specs.Exception.{process_of, level_at, no_handler, try_at, outcome}
use Rattle.model.specs.Exception.{delivered, raise_exiting, route_of}
use Rattle.model.specs.Exception.{is_hardware, is_no_type}
use Rattle.exception.specs.declared.Raised.{Raised}
use Rattle.exception.specs.declared.Raised.TheVariants.{Over, Stop}
use Rattle.exception.specs.Seek.{Found, alone, first_found, next_found}
use Rattle.exception.specs.Raise.{raised_answer, raised_owner, raised_in, exits, gone_on, left_in, Came, came}
use Rattle.exception.specs.Raise.{delivers, exits_to, is_stopped, raises, is_over, closes}
use Rattle.exception.proofs.Stored.{Fits, stored, stored_back}
use Rattle.exception.proofs.Seeking.{search_found, Finds, is_to_exiting, finds_exiting, finds_first, finds_next}
use Rattle.exception.proofs.Delivering.{stored_in, Still, stored_back_in, stored_past, none_past, exiting_to}
use Rattle.exception.proofs.Delivering.{deliver_at, deliver_still, exits_at, exits_still}

-- ---- Raised and closed ---------------------------------------------------------------------------

raise_exiting_lem : (t : Tables) (n kind : ℕ) →
    let s = try_at t n Exiting no_handler in raise_exiting t n kind ≡ exiting_to s.at s.tables n kind
unfolding raise_exiting try_at ite if◌then◌otherwise◌ exiting_to
raise_exiting_lem t n kind = by (is_bound (level_at t n Exiting)) (λ b. rw b) (λ b. rw b)

exiting_route : (kind : ℕ) (v : Thread) (q : Process) (jobs : List Job) → kind =? 0x8108 ≡ true →
    first_found (route_of kind) v q jobs ≡ alone Exiting v q jobs
unfolding route_of is_hardware first_found if◌then◌otherwise◌ ◌or◌
exiting_route kind v q jobs e = rw (eqb-true kind 0x8108 e)

other_route : (kind : ℕ) → kind =? 0x8108 ≡ false → is_to_exiting (route_of kind) ≡ false
unfolding route_of if◌then◌otherwise◌
other_route kind e =
    rw e (go (is_hardware kind) ((kind =? 0x8000) or (kind =? 0x8208)) (kind =? 0x8308) (kind =? 0x8008))
  where
    go : (a b c d : Bool) →
        is_to_exiting (if a then Ordinary otherwise if b then Ordinary otherwise if c then JobDebuggers otherwise
        if d then DebuggerOnly otherwise NoType) ≡ false
    go true b c d = refl
    go false true c d = refl
    go false false true d = refl
    go false false false true = refl
    go false false false false = refl

-- the thread v and its process q, as the tables have them
module _ (t : Tables) (z : Sized t) (n : ℕ) (h : n < 128) {v : Thread} {q : Process} (e : thread_at t n ≡ v)
    (p : process_at t v.process ≡ q) (fits : Fits v.process q) where
  -- g is the search over the tables, f what it finds by the records
  module _ (g : Tables → Search) (f : Found) (facts : Finds t n v.process (g (stored t n v q)) f) where
    found_is : g t ≡ search_found t n f
    found_is = ap g (sym (stored_back t n e p)) ∙ facts.is

    got_fits : Fits f.thread.process f.process
    got_fits = subst (λ (i : ℕ). Fits i f.process) (sym facts.process) facts.fits

    named_lem : (m : Came) → stored_in t n f.thread.process m ≡ stored_in t n v.process m
    named_lem m = ap (λ (i : ℕ). stored_in t n i m) facts.process

    delivers_is : (kind : ℕ) (b : Bool) →
        delivered (g t) n kind b ≡ stored_in t n v.process (delivers f.at f n kind b)
    delivers_is kind b =
        ap (λ (s : Search). delivered s n kind b) found_is
        ∙ deliver_at t z n h f got_fits f.at kind b ∙ named_lem _

    delivers_still : (kind : ℕ) (b : Bool) → Still v.process (delivers f.at f n kind b)
    delivers_still kind b =
        subst (λ (i : ℕ). Still i (delivers f.at f n kind b)) facts.process
        (deliver_still t z n h f got_fits f.at kind b)

    exits_is : (kind : ℕ) → exiting_to (g t).at (g t).tables n kind ≡ stored_in t n v.process (exits_to f.at f kind)
    exits_is kind =
        ap (λ (s : Search). exiting_to s.at s.tables n kind) found_is
        ∙ exits_at t z n h f got_fits f.at kind ∙ named_lem _

  first_facts : (kind : ℕ) → kind =? 0x8108 ≡ false →
      Finds t n v.process (model.first_handler (route_of kind) (stored t n v q) n)
      (first_found (route_of kind) v q t.jobs)
  first_facts kind k = finds_first t z n h v q fits (route_of kind) (other_route kind k)

  next_facts : (x : Exception) →
      Finds t n v.process (model.next_handler x.place (stored t n v q) n x) (next_found x.place x v q t.jobs)
  next_facts x = finds_next t z n h v q fits x x.place

  -- an answer and no change of the process
  stays_came : (w : Thread) (m : Raised) → exits (Ok m) ≡ false →
      reply (put_thread t n w) (raised_answer m) (OwnerField (raised_owner m))
      ≡ stored_in t n v.process (came m w q t.jobs)
  unfolding stored_in raised_in gone_on if◌then◌otherwise◌ put_thread put_process process_at
  stays_came w m x =
      rw x
      (ap (λ (u : Tables). reply u (raised_answer m) (OwnerField (raised_owner m)))
      (sym (process_kept (put_thread t n w) v.process p)))

  raise_is : (kind : ℕ) → model.raise t n kind ≡ stored_in t n v.process (raises n kind (route_of kind) v q t.jobs)
  unfolding model.raise raises is_stopped
  raise_is kind =
      by (kind =? 0x8108)
      (λ k.
      sym (first _ _ k refl)
      ∙ raise_exiting_lem t n kind
      ∙ exits_is (λ u. try_at u n Exiting no_handler) _ (finds_exiting t z n h v q fits) kind
      ∙ ap (λ (f : Found). stored_in t n v.process (exits_to f.at f kind)) (sym (exiting_route kind v q t.jobs k))
      ∙ ap (stored_in t n v.process) (second _ _ (sym (first _ _ k refl)) (first _ _ k refl)))
      (λ k.
      by (v.state =? DYING)
      (λ d.
      sym (second _ _ k (first _ _ (ap (λ (x : Thread). x.state =? DYING) e ∙ d) refl))
      ∙ ap (λ (u : Tables). outcome u STOP) (sym (thread_kept t n e))
      ∙ stays_came v Stop refl
      ∙ ap (stored_in t n v.process) (first _ _ (sym (second _ _ k (sym d))) refl))
      (λ d.
      sym (second _ _ k (second _ _ (ap (λ (x : Thread). x.state =? DYING) e ∙ d) refl))
      ∙ delivers_is (λ u. model.first_handler (route_of kind) u n) _ (first_facts kind k) kind false
      ∙ ap (stored_in t n v.process) (second _ _ (sym (second _ _ k (sym d))) (second _ _ k refl))))

  raise_still : (kind : ℕ) → Still v.process (raises n kind (route_of kind) v q t.jobs)
  unfolding raises
  raise_still kind i =
      let f : Found = first_found (route_of kind) v q t.jobs in
      if_on (λ (m : Came). exits (Ok m.to) ≡ false) (is_stopped v kind) _ _ (λ k. refl)
      (λ k. if_on (λ (m : Came). exits (Ok m.to) ≡ false) (kind =? 0x8108) _ _
      (λ d. exits_still f.at f kind)
      (λ d. delivers_still (λ u. model.first_handler (route_of kind) u n) _ (first_facts kind d) kind false i))

  close_is : (x : Exception) → model.close t n x ≡ stored_in t n v.process (closes n x v q t.jobs)
  unfolding model.close closes
  close_is x =
      by (is_over x)
      (λ k.
      sym (first _ _ k refl)
      ∙ ap (λ (w : Thread). outcome (put_thread t n (end_wait w)) (pos 0)) e
      ∙ stays_came (end_wait v) Over refl
      ∙ ap (stored_in t n v.process) (first _ _ k refl))
      (λ k.
      sym (second _ _ k refl)
      ∙ delivers_is (λ u. model.next_handler x.place u n x) _ (next_facts x) x.kind x.second
      ∙ ap (stored_in t n v.process) (second _ _ k refl))

  close_still : (x : Exception) → Still v.process (closes n x v q t.jobs)
  unfolding closes
  close_still x i =
      if_on (λ (m : Came). exits (Ok m.to) ≡ false) (is_over x) _ _ (λ k. refl)
      (λ k. delivers_still (λ u. model.next_handler x.place u n x) _ (next_facts x) x.kind x.second i)

-- ---- The calls ---------------------------------------------------------------------------------

-- a refused call
pub stays : (t : Tables) (n : ℕ) {v : Thread} {q : Process} {jobs : List Job} (e : Refusal) →
    thread_at t (n % 128) ≡ v → process_at t (v.process % 64) ≡ q → t.jobs ≡ jobs →
    left_in t n v.process v q jobs (Err e) ≡ answered t (number_of e)
unfolding raised_in gone_on if◌then◌otherwise◌ put_thread put_process process_at
stays t n {v} {q} e a b d =
    rw (← d)
    (ap (λ (u : Tables). answered (with_jobs u t.jobs) (number_of e))
    (process_kept (put_thread t (n % 128) v) (v.process % 64) b ∙ thread_kept t (n % 128) a))

-- m is what the call comes to, w, r and left what it leaves
module _ (t : Tables) (z : Sized t) (n : ℕ) (h : n < 128) {v : Thread} {q : Process} {jobs : List Job}
    (a : thread_at t (n % 128) ≡ v) (b : process_at t (v.process % 64) ≡ q) (d : t.jobs ≡ jobs) where
  named : thread_at t n ≡ v
  named = thread_at_lem t n h a

  -- by what the model says of the call, where the process has its place in the table
  within : {m : Raised} {w : Thread} {r : Process} {left : List Job} {x : Came} {y : Reply} → v.process < 64 →
      came m w r left ≡ x → y ≡ stored_in t n v.process x → left_in t n v.process w r left (Ok m) ≡ y
  within l e f = stored_back_in t z n v.process h _ _ _ _ l ∙ ap (stored_in t n v.process) e ∙ sym f

  -- and where it is one never made
  past : {m : Raised} {w : Thread} {r : Process} {left : List Job} {x : Came} {y : Reply} → 64 ≤ v.process →
      came m w r left ≡ x → Still v.process x → y ≡ stored_in t n v.process x →
      left_in t n v.process w q left (Ok m) ≡ y
  past k e s f =
      stored_past t z n v.process h _ _ _ _ b k (subst (Still v.process) (sym e) s)
      ∙ ap (stored_in t n v.process) e ∙ sym f

  module _ {m : Raised} {w : Thread} {r : Process} {left : List Job} where
    pub raised_is : (kind : ℕ) {route : Route} → v.process < 64 → route ≡ route_of kind →
        came m w r left ≡ raises n kind route v q jobs →
        left_in t n v.process w r left (Ok m) ≡ model.raise t n kind
    raised_is kind l f g =
        within l (rw (← f, d) g)
        (raise_is t z n h named (process_at_lem t v.process l b) (λ k. absurd (omega arith)) kind)

    pub closed_is : (y : Exception) → v.process < 64 → came m w r left ≡ closes n y v q jobs →
        left_in t n v.process w r left (Ok m) ≡ model.close t n y
    closed_is y l g =
        within l (rw d g)
        (close_is t z n h named (process_at_lem t v.process l b) (λ k. absurd (omega arith)) y)

    pub raised_past : (kind : ℕ) {route : Route} {own : Process} → 64 ≤ v.process → route ≡ route_of kind →
        own ≡ no_process → came m w r left ≡ raises n kind route v own jobs →
        left_in t n v.process w q left (Ok m) ≡ model.raise t n kind
    raised_past kind k f o g =
        let p : process_at t v.process ≡ no_process = none_past t v.process z k in
        past {r = r} k (rw (← f, ← o, d) g) (raise_still t z n h named p (λ _. refl) kind)
        (raise_is t z n h named p (λ _. refl) kind)

    pub closed_past : (y : Exception) {own : Process} → 64 ≤ v.process → own ≡ no_process →
        came m w r left ≡ closes n y v own jobs →
        left_in t n v.process w q left (Ok m) ≡ model.close t n y
    closed_past y k o g =
        let p : process_at t v.process ≡ no_process = none_past t v.process z k in
        past {r = r} k (rw (← o, d) g) (close_still t z n h named p (λ _. refl) y)
        (close_is t z n h named p (λ _. refl) y)

-- what was said of the route of a type
pub route_told : {b x : Bool} {route : Route} (kind : ℕ) →
    b ≡ is_no_type route → b ≡ x → route ≡ route_of kind → is_no_type (route_of kind) ≡ x
route_told kind f g e = ap is_no_type (sym e) ∙ sym f ∙ g

pub ruleset raising = (
  answering,
  thread_looked_up_at,
  stays,
  raised_is,
  raised_past,
  closed_is,
  closed_past,
  route_told,
)
