-- Laws of `common` and `begins`: that all of a list is common where the other begins with it. Then how a list stands
-- after some events and some more. Assumes nothing.
use Prim.Native.Nat.{ℕ, suc, ◌+◌, ◌-◌, ◌^◌, ◌<◌, ◌≤◌, min}
use mathlib.Core.Path.{◌≡◌, refl, sym, ◌∙◌, ap}
use mathlib.Core.Bool.{Bool, true, false, cond}
use mathlib.Core.List.{List, [], ◌∷◌, ◌++◌}
use native.Mathlib.Omega.{arith}
use borrow.Author.Tests.{eq-eqb, ne_eqb, lt-ltb, le-ltb}
use lib.Dec.{eqb-zero-suc, eqb-suc-suc}
use lib.ListN.{length, take}
use Rattle.std.specs.Result.{IsErrAnd, IfErr}
use Rattle.std.specs.List.{zip, prefix_len}
use Rattle.std.proofs.Common.{Option, None, Some, Result, Ok, Err, subst}
use Rattle.laws.specs.Choice.{◌<?◌, ◌=?◌, ◌and◌, if◌then◌otherwise◌, ite}
use Rattle.replay.specs.declared.list.Progress.{Progress}
use Rattle.replay.specs.declared.recorded.Lines.{Lines}
use Rattle.replay.specs.declared.recorded.Fault.{Fault}
use Rattle.replay.specs.declared.recorded.Fault.TheVariants.{Differs, Cut}
use Rattle.replay.specs.Agree.{common, begins, is_stop, number, length_of, agreed, judged, over, passed, and_then}
use Rattle.replay.specs.Agree.{Event, compared, calls_end, after, lines_of, Compares, Follows, Finishes, Replays}

-- the two bytes are the same
abbrev pub alike : ℕ × ℕ → Bool
alike p = p.0 =? p.1

by_first : (t : Bool) (n k : ℕ) → n ≡ k → cond t (1 + n) 0 ≡ ite t (λ _. suc k) (λ _. 0)
unfolding ite
by_first true n k e = omega (arith, e)
by_first false n k e = refl

-- the pairs at the front that are alike are those that both lists have
pub zipped : (a b : List ℕ) → prefix_len alike (zip a b) ≡ common a b
unfolding common
zipped [] b = refl
zipped (x ∷ a) [] = refl
zipped (x ∷ a) (y ∷ b) = by_first (x =? y) (prefix_len alike (zip a b)) (common a b) (zipped a b)

-- all of a is common exactly where b begins with a
by_test : (t s : Bool) (n k : ℕ) → (n =? k) ≡ s → (ite t (λ _. suc n) (λ _. 0) =? suc k) ≡ t and s
unfolding ite ◌and◌
by_test true s n k e = eqb-suc-suc n k ∙ e
by_test false s n k e = eqb-zero-suc k

pub all_common : (a b : List ℕ) → (common a b =? length a) ≡ begins a b
unfolding common begins
all_common [] b = refl
all_common (x ∷ a) [] = eqb-zero-suc (length a)
all_common (x ∷ a) (y ∷ b) = by_test (x =? y) (begins a b) (common a b) (length a) (all_common a b)

-- ---- A whole list --------------------------------------------------------------------------

one : (r : Result Lines Fault) → and_then r (λ m. Ok m) ≡ r
unfolding and_then
one (Ok m) = refl
one (Err e) = refl

both_behind : (r : Result Lines Fault) (a b : List Event) →
    ((m : Lines) → and_then (after m a) (λ k. after k b) ≡ after m (a ++ b)) →
    and_then (and_then r (λ m. after m a)) (λ k. after k b) ≡ and_then r (λ m. after m (a ++ b))
unfolding and_then
both_behind (Ok m) a b h = h m
both_behind (Err e) a b h = refl

after_both : (l : Lines) (a b : List Event) → and_then (after l a) (λ k. after k b) ≡ after l (a ++ b)
unfolding after and_then
after_both l [] b = refl
after_both l (compared w r ∷ a) b = both_behind (judged l w r) a b (λ m. after_both m a b)
after_both l (calls_end ∷ a) b = refl

pub stays : (l : Lines) → Follows l (Ok l)
unfolding after
stays l = record { events = []; are = refl }

pub hence : {l : Lines} {r s : Result Lines Fault} → Follows l r → r ≡ s → Follows l s
hence f e = record { events = f.events; are = sym e ∙ f.are }

joined : {l m : Lines} (f : Follows l (Ok m)) (b : List Event) → after m b ≡ after l (f.events ++ b)
unfolding and_then
joined {l = l} f b =
    ap (λ (r : Result Lines Fault). and_then r (λ k. after k b)) f.are ∙ after_both l f.events b

pub goes_on_lem : {l m : Lines} {r : Result Lines Fault} → Follows l (Ok m) → Follows m r → Follows l r
goes_on_lem f g = record { events = f.events ++ g.events; are = g.are ∙ joined f g.events }

pub compares : {l : Lines} {w want : List ℕ} {r : Result Lines Fault} → Compares l w want r → Follows l r
unfolding after
compares {l = l} {w = w} {want = want} c =
    record { events = compared w (take c.got want) ∷ []; are = c.judges ∙ sym (one (judged l w (take c.got want))) }

pub cuts : (l : Lines) → Follows l (Err (Cut l.at))
unfolding after
cuts l = record { events = calls_end ∷ []; are = refl }

-- what `?` hands on
handed_on : {A : Type 0} (r : Result A Fault) (e : Fault) → IsErrAnd r (λ d. d ≡ e) → r ≡ Err e
handed_on (Ok n) e h = absurd h
handed_on (Err d) e h = ap Err h

pub faults : {l : Lines} {s : Result Lines Fault} {e : Fault} (r : Result Progress Fault) → Follows l s → s ≡ Err e →
    IsErrAnd r (λ d. d ≡ e) → Follows l (lines_of r)
unfolding lines_of
faults {e = d} r f e h = hence f (e ∙ sym (ap lines_of (handed_on r d h)))

-- a length has no other fault
only_cut : (s t : Bool) (n : ℕ) →
    IfErr (if s then Ok None otherwise if t then Err (Cut 0) otherwise Ok (Some n)) (λ d. d ≡ Cut 0)
unfolding if◌then◌otherwise◌
only_cut true t n = tt
only_cut false true n = refl
only_cut false false n = tt

pub no_length : {A : Type 0} {s : Result (Option ℕ) Fault} {e : Fault} (r : Result A Fault) (b : List ℕ) →
    (got : ℕ) × (s ≡ length_of got b) → s ≡ Err e → IsErrAnd r (λ d. d ≡ e) → r ≡ Err (Cut 0)
unfolding length_of
no_length {e = d} r b h e k =
    handed_on r d k
    ∙ ap Err
    (subst (λ (s : Result (Option ℕ) Fault). IfErr s (λ d. d ≡ Cut 0)) (sym h.1 ∙ e)
    (only_cut (h.0 =? 0) (h.0 <? 4) (number b)))

pub over_at : {l m : Lines} {r : Result ℕ Fault} (holds : Bool) → Follows l (Ok m) → r ≡ over m holds → Finishes l r
unfolding and_then
over_at holds f e = record {
  events = f.events;
  holds = holds;
  are = e ∙ ap (λ (r : Result Lines Fault). and_then r (λ k. over k holds)) f.are;
}

pub never_over : {l : Lines} {s : Result Lines Fault} {e : Fault} {r : Result ℕ Fault} → Follows l s → s ≡ Err e →
    IsErrAnd r (λ d. d ≡ e) → Finishes l r
unfolding and_then
never_over {e = d} {r = r} f e h = record {
  events = f.events;
  holds = true;
  are = handed_on r d h
      ∙ ap (λ (r : Result Lines Fault). and_then r (λ k. over k true)) (sym e ∙ f.are);
}

pub finishes : {l m : Lines} {r : Result ℕ Fault} → Follows l (Ok m) → Finishes m r → Finishes l r
finishes f g = record {
  events = f.events ++ g.events;
  holds = g.holds;
  are = g.are ∙ ap (λ (r : Result Lines Fault). and_then r (λ k. over k g.holds)) (joined f g.events);
}

pub fails : {l : Lines} {s r : Result ℕ Fault} {e : Fault} → Finishes l s → s ≡ Err e → IsErrAnd r (λ d. d ≡ e) →
    Replays l r
unfolding and_then
fails {r = r} {e = d} f e h = record {
  events = f.events;
  holds = f.holds;
  there = true;
  are = handed_on r d h ∙ ap (λ (r : Result ℕ Fault). and_then r (λ n. passed n true)) (sym e ∙ f.are);
}

pub never_replayed : {l : Lines} {s : Result Lines Fault} {e : Fault} {r : Result ℕ Fault} → Follows l s → s ≡ Err e →
    IsErrAnd r (λ d. d ≡ e) → Replays l r
unfolding and_then
never_replayed {e = d} {r = r} f e h = record {
  events = f.events;
  holds = true;
  there = true;
  are = handed_on r d h
      ∙ ap
      (λ (r : Result Lines Fault). and_then (and_then r (λ k. over k true)) (λ n. passed n true))
      (sym e ∙ f.are);
}

pub replays : {l : Lines} {s r : Result ℕ Fault} {n : ℕ} → Finishes l s → s ≡ Ok n →
    (there : Bool) × (r ≡ passed n there) → Replays l r
unfolding and_then
replays f e h = record {
  events = f.events;
  holds = f.holds;
  there = h.0;
  are = h.1 ∙ ap (λ (r : Result ℕ Fault). and_then r (λ n. passed n h.0)) (sym e ∙ f.are);
}

-- ---- How a list stands ---------------------------------------------------------------------

pub nothing_written : (l : Lines) (w r : List ℕ) → length w ≡ 0 → Ok l ≡ judged l w r
unfolding judged
nothing_written l [] r e = refl
nothing_written l (x ∷ w) r e = absurd (omega arith)

-- the fields as the code computes them
pub some_written : (l : Lines) (w r : List ℕ) → (length w ≡ 0 → ⊥) → judged l w r ≡
    (if common w r =? length w
    then Ok (record { end = l.end; at = agreed l w r; stop = is_stop w })
    otherwise
    (if length r <? min (length w) (l.end - l.at)
    then Err (Cut (agreed l w r))
    otherwise Err (Differs (agreed l w r))))
unfolding judged
some_written l [] r h = absurd (h refl)
some_written l (x ∷ w) r h = rw (all_common (x ∷ w) r)

-- how much of w agrees with what came, and the place behind it, as the code computes them
module _ (l : Lines) (w came : List ℕ) (a at : ℕ) (some : length w ≡ 0 → ⊥) (agrees : a ≡ common w came)
    (place : at ≡ min (l.at + a) (2 ^ 64 - 1)) where
  pub all_written : (stop : Bool) → stop ≡ is_stop w → a ≡ length w →
      Ok (record { end = l.end; at = at; stop = stop }) ≡ judged l w came
  unfolding if◌then◌otherwise◌
  all_written stop s k =
      sym (some_written l w came some ∙ rw (← agrees, ← place, ← s, eq-eqb a (length w) k))

  module _ (room most : ℕ) (left_over : room ≡ l.end - l.at) (smaller : most ≡ min (length w) room) where
    pub cut_short : (a ≡ length w → ⊥) → length came < most → Err (Cut at) ≡ judged l w came
    unfolding if◌then◌otherwise◌
    cut_short k h =
        let t : length came < min (length w) (l.end - l.at) = omega arith in sym
        (some_written l w came some
        ∙ rw (
          ← agrees,
          ← place,
          ne_eqb a (length w) k,
          lt-ltb (length came) (min (length w) (l.end - l.at)) t,
        ))

    pub differs : (a ≡ length w → ⊥) → most ≤ length came → Err (Differs at) ≡ judged l w came
    unfolding if◌then◌otherwise◌
    differs k h =
        let t : min (length w) (l.end - l.at) ≤ length came = omega arith in sym
        (some_written l w came some
        ∙ rw (
          ← agrees,
          ← place,
          ne_eqb a (length w) k,
          le-ltb (length came) (min (length w) (l.end - l.at)) t,
        ))
