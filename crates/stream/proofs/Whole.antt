-- However the stream is cut into parts, and however much room each call has, what is written in all is
-- the transcript.
--     part_law       what a call writes, and then the transcript of what it left and of all that is
--                    still to come, is the transcript of what it was given and of all that is to come
--     moves          a call that does not end the stream stops for want of room, or before a command
--                    that is not whole
--     at_the_end     what `close` writes is the transcript of what is left, where no whole command is
--     any_parts_lem      so it is of any sequence of reads and calls
-- Assumes nothing.
use Prim.Native.Nat.{ℕ, zero, suc, ◌+◌, ◌-◌, ◌<◌}
use native.Mathlib.Omega.{arith}
use mathlib.Core.Path.{◌≡◌, refl, sym, ◌∙◌, ap}
use mathlib.Core.Logic.{◌⊎◌, inl, inr}
use mathlib.Core.Bool.{Bool, true, false}
use mathlib.Core.List.{List, [], ◌∷◌, ◌++◌, append-nil, append_assoc}
use borrow.Author.Tests.{ltb-true}
use lib.Dec.{ltb}
use lib.ListN.{length, drop, length-append}
use lib.Seq.{take-append-le, drop-append-le, drop-drop}
use Rattle.laws.specs.Choice.{if◌then◌otherwise◌}
use Rattle.commands.specs.declared.Next.{Next}
use Rattle.commands.specs.declared.Next.TheVariants.{Wait, Stop, Whole}
use Rattle.commands.specs.Commands.{next_of}
use Rattle.commands.proofs.Stays.{whole_bounds, left_less, front_stays}
use Rattle.calls.specs.Calls.{call_in, perform}
use Rattle.stream_state.specs.declared.State.{State}
use Rattle.stream_state.specs.State.{fresh_state, stop_at, closing}
use Rattle.stream_state.specs.Recorder.{reply_to, after, line}
use Rattle.stream_state.specs.Recorder.{on_next, Part, part, ahead, fed_within, fed}
use Rattle.stream.specs.Stream.{transcript, Event, read, call, bytes_of}
use Rattle.stream.specs.Stream.{progress, Drained, Stream}
use Rattle.stream.proofs.Transcript.{transcript_is}
use Rattle.stream.proofs.Answered.{as_answered_lem}

module _ (bs cs : List ℕ) where
  -- the reply to a whole command, whatever follows it
  reply_stays : (s : State) (n : ℕ) → next_of bs ≡ Whole n → reply_to s n (bs ++ cs) ≡ reply_to s n bs
  reply_stays s n e =
      ap (λ (l : List ℕ). perform s.tables (call_in l)) (take-append-le n bs cs (whole_bounds bs n e).1)

  drop_stays : (n : ℕ) → next_of bs ≡ Whole n → drop n (bs ++ cs) ≡ drop n bs ++ cs
  drop_stays n e = drop-append-le n bs cs (whole_bounds bs n e).1

not_wait : (n : ℕ) → Whole n ≡ Wait → ⊥
not_wait n e = let z : ◌≡◌ {A = ℕ} 0 1 = cc in omega arith

stop_no_wait : Stop ≡ Wait → ⊥
stop_no_wait e = let z : ◌≡◌ {A = ℕ} 0 1 = cc in omega arith

-- ---- one call
-- the part p of bs, and what is still to be written after it, where cs follows
abbrev pub onward : Part → List ℕ → List ℕ → List ℕ
onward p bs cs = p.lines ++
    (if p.finished then [] otherwise transcript p.state (drop p.consumed bs ++ cs))

module _ (s : State) (bs cs : List ℕ) where
  still : transcript s (bs ++ cs) ≡ onward (part s 0 [] false) bs cs
  unfolding if◌then◌otherwise◌
  still = refl

  ends : next_of bs ≡ Stop → transcript s (bs ++ cs) ≡ onward (part s 0 (stop_at s) true) bs cs
  unfolding if◌then◌otherwise◌
  ends e = transcript_is s (bs ++ cs)
      ∙ rw (front_stays bs cs Stop e stop_no_wait) (sym (append-nil (stop_at s)))

  -- a command, where the law holds of what is after it
  goes : (n : ℕ) (p : Part) → next_of bs ≡ Whole n →
      transcript (after s n bs) (drop n bs ++ cs) ≡ onward p (drop n bs) cs →
      transcript s (bs ++ cs) ≡ onward (ahead n (line s n bs) p) bs cs
  unfolding if◌then◌otherwise◌
  goes n p e h =
      let d : drop (n + p.consumed) bs
      ≡ drop p.consumed (drop n bs) = sym (drop-drop p.consumed n bs) in
      transcript_is s (bs ++ cs)
      ∙ rw (
        front_stays bs cs (Whole n) e (not_wait n),
        reply_stays bs cs s n e,
        drop_stays bs cs n e,
        h,
        d,
        append_assoc,
      )

  -- by what stands at the front
  by_front : (x : Next) → next_of bs ≡ x → (K : ℕ → Part) →
      ((n : ℕ) → next_of bs ≡ Whole n →
      transcript (after s n bs) (drop n bs ++ cs) ≡ onward (K n) (drop n bs) cs)
      → transcript s (bs ++ cs)
      ≡ onward (on_next x (part s 0 [] false) (part s 0 (stop_at s) true)
      (λ n. ahead n (line s n bs) (K n))) bs cs
  by_front Wait e K h = still
  by_front Stop e K h = ends e
  by_front (Whole n) e K h = goes n (K n) e (h n e)

  by_room : (b : Bool) (p : Part) → transcript s (bs ++ cs) ≡ onward p bs cs →
      transcript s (bs ++ cs) ≡ onward (if b then part s 0 [] false otherwise p) bs cs
  unfolding if◌then◌otherwise◌
  by_room true p h = still
  by_room false p h = h

within_law : (f room : ℕ) (s : State) (bs cs : List ℕ) →
    transcript s (bs ++ cs) ≡ onward (fed_within f room s bs) bs cs
unfolding fed_within
within_law zero room s bs cs = still s bs cs
within_law (suc f) room s bs cs =
    by_room s bs cs (ltb room 128) _
    (by_front s bs cs (next_of bs) refl
    (λ n. fed_within f (room - length (line s n bs)) (after s n bs) (drop n bs))
    (λ n e. within_law f (room - length (line s n bs)) (after s n bs) (drop n bs) cs))

pub part_law : (room : ℕ) (s : State) (bs cs : List ℕ) →
    transcript s (bs ++ cs) ≡ onward (fed room s bs) bs cs
unfolding fed
part_law room s bs cs = within_law (suc (length bs)) room s bs cs

-- ---- a call that does not end the stream stops for want of room, or where no whole command is left
abbrev Halts : ℕ → List ℕ → Part → Type 0
Halts room bs p = p.finished
    ≡ false → (room - length p.lines < 128) ⊎ (next_of (drop p.consumed bs) ≡ Wait)

halts_goes : (room n : ℕ) (l bs : List ℕ) (p : Part) → Halts (room - length l) (drop n bs) p →
    Halts room bs (ahead n l p)
halts_goes room n l bs p h e = elim
    (h e) [
      | inl a ↦ inl (simp length-append (omega arith))
      | inr a ↦ inr
          (rw (← drop-drop p.consumed n bs) a)
    ]

halts_front : (room : ℕ) (s : State) (bs : List ℕ) (x : Next) → next_of bs ≡ x → (K : ℕ → Part) →
    ((n : ℕ) → next_of bs ≡ Whole n → Halts (room - length (line s n bs)) (drop n bs) (K n))
    → Halts room bs
    (on_next x (part s 0 [] false) (part s 0 (stop_at s) true) (λ n. ahead n (line s n bs) (K n)))
halts_front room s bs Wait e K h = λ _. inr e
halts_front room s bs Stop e K h = λ f. let z : ◌≡◌ {A = ℕ} 0 1 = cc in absurd (omega arith)
halts_front room s bs (Whole n) e K h = halts_goes room n (line s n bs) bs (K n) (h n e)

halts_room : (b : Bool) (room : ℕ) (s : State) (bs : List ℕ) (p : Part) → ltb room 128 ≡ b →
    Halts room bs p → Halts room bs (if b then part s 0 [] false otherwise p)
unfolding if◌then◌otherwise◌
halts_room true room s bs p e h = λ _. inl (omega (arith, ltb-true room 128 e))
halts_room false room s bs p e h = h

within_halts : (f room : ℕ) (s : State) (bs : List ℕ) → length bs < f →
    Halts room bs (fed_within f room s bs)
unfolding fed_within
within_halts zero room s bs l = absurd (omega arith)
within_halts (suc f) room s bs l =
    halts_room (ltb room 128) room s bs _ refl
    (halts_front room s bs (next_of bs) refl
    (λ n. fed_within f (room - length (line s n bs)) (after s n bs) (drop n bs))
    (λ n e. within_halts f (room - length (line s n bs)) (after s n bs) (drop n bs) (omega (
      arith,
      left_less bs n e,
    ))))

pub moves : (room : ℕ) (s : State) (bs : List ℕ) → (fed room s bs).finished ≡ false →
    (room - length (fed room s bs).lines < 128) ⊎ (next_of (drop (fed room s bs).consumed bs) ≡ Wait)
unfolding fed
moves room s bs = within_halts (suc (length bs)) room s bs (omega arith)

-- ---- the end of the stream
pub at_the_end : (s : State) (bs : List ℕ) → next_of bs ≡ Wait → transcript s bs ≡ closing s bs
at_the_end s bs e = transcript_is s bs ∙ rw e

-- ---- any sequence of reads and calls
choice_same : (b : Bool) (x y : List ℕ) → (b ≡ false → x ≡ y) →
    (if b then [] otherwise x) ≡ (if b then [] otherwise y)
unfolding if◌then◌otherwise◌
choice_same true x y h = refl
choice_same false x y h = h refl

pub any_parts_lem : (s : State) (bs : List ℕ) (es : List Event) → Drained s bs es →
    progress s bs es ≡ transcript s (bs ++ bytes_of es)
any_parts_lem s bs [] d = sym (at_the_end s bs d) ∙ ap (transcript s) (sym (append-nil bs))
any_parts_lem s bs (read cs ∷ es) d = any_parts_lem s (bs ++ cs) es d
    ∙ ap (transcript s) (append_assoc bs cs (bytes_of es))
any_parts_lem s bs (call room ∷ es) d =
    ap (λ (l : List ℕ). (fed room s bs).lines ++ l)
    (choice_same (fed room s bs).finished _ _
    (λ e. any_parts_lem (fed room s bs).state (drop (fed room s bs).consumed bs) es (d e)))
    ∙ sym (part_law room s bs (bytes_of es))

pub stream : Stream
stream =
    record { any_parts = λ es d. any_parts_lem fresh_state [] es d; as_answered = λ bs. as_answered_lem fresh_state bs }
