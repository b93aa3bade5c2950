-- The loop of `feed`, over plain values: what is left to do from here, behind what is done, is the
-- whole.
--     full, waits, stops       the ways out
--     goes                     a command
-- Assumes nothing.
use Prim.Native.Nat.{ℕ, ◌+◌, ◌-◌, ◌≤◌, ◌<◌}
use native.Mathlib.Nat.{zero-add, add-zero, add_assoc}
use native.Mathlib.Omega.{arith}
use mathlib.Core.Path.{◌≡◌, refl, sym, ◌∙◌, ap}
use mathlib.Core.Bool.{true, false}
use mathlib.Core.List.{List, [], ◌++◌, append-nil, append_assoc}
use borrow.Author.Tests.{lt-ltb, le-ltb}
use lib.ListN.{length, take, drop, length-append, length-drop}
use lib.Seq.{take_all, length-take-le, drop-drop}
use lib.IntN.{ℤ}
use Rattle.laws.specs.Choice.{if◌then◌otherwise◌}
use Rattle.job_policy.specs.declared.JobPolicy.{JobPolicy}
use Rattle.reply.specs.declared.Fields.{Fields}
use Rattle.reply.specs.declared.Reply.{Reply}
use Rattle.commands.specs.declared.Next.{Next}
use Rattle.commands.specs.declared.Next.TheVariants.{Wait, Stop, Whole}
use Rattle.commands.specs.Commands.{next_of}
use Rattle.commands.proofs.Stays.{whole_bounds}
use Rattle.calls.specs.Calls.{call_in, perform}
use Rattle.lines.specs.Line.{line_of, Put}
use Rattle.stream_state.specs.declared.State.{State}
use Rattle.stream_state.specs.declared.fed.Fed.{Fed}
use Rattle.stream_state.specs.State.{next_number, state_of, stop_at}
use Rattle.stream_state.specs.Recorder.{reply_to, line_for}
use Rattle.stream_state.specs.Recorder.{Part, part, ahead, fed, Feeds}
use Rattle.stream_state.proofs.Parts.{fed_is}

-- a line by other names for its number, its answer and its policy
pub as_lined : {before now : List ℕ} {at r : ℕ} {n m : ℕ} {a b : ℤ} (f : Fields) {p q : JobPolicy} → n ≡ m → a ≡ b →
    p ≡ q →
    Put before now at r (line_of n a f p) → Put before now at r (line_of m b f q)
as_lined f d e g h = simp (d, e, g) at h

pub begins : (p : Part) → p ≡ ahead 0 [] p
begins p = rw zero-add

-- one command after others
ahead_ahead : (a b : ℕ) (x y : List ℕ) (p : Part) → ahead a x (ahead b y p) ≡ ahead (a + b) (x ++ y) p
ahead_ahead a b x y p = rw (add_assoc, append_assoc)

module _ (input out₀ out : List ℕ) (s₀ s : State) (at w : ℕ)
    (inv : (at ≤ length input) ×
    ((w ≤ length out) ×
    ((length out ≡ length out₀) × (fed (length out₀) s₀ input
    ≡ ahead at (take w out) (fed (length out₀ - w) s (drop at input)))))) where
  -- the rest of the input, as the code has it
  abbrev rest : List ℕ
  rest = take (length input - at) (drop at input)

  rest_is : rest ≡ drop at input
  rest_is = take_all (length input - at) (drop at input) (simp length-drop (omega arith))

  long : length (take w out) ≡ w
  long = length-take-le w out inv.1.0

  abbrev came : ℕ → Fed
  came r = record { state = s; consumed = at; written = r; finished = false }

  ends : fed (length out₀ - w) s (drop at input) ≡ part s 0 [] false →
      Feeds (fed (length out₀) s₀ input) (came w) out
  ends e =
      let t : fed (length out₀) s₀ input ≡ ahead at (take w out) (part s 0 [] false) = inv.1.1.1
      ∙ ap (ahead at (take w out)) e in
      rw t (record {
        state = refl;
        consumed = sym
            (add-zero at);
        finished = refl;
        written = simp append-nil (sym long);
        lines = sym
            (append-nil (take w out));
      })

  pub full : length out - w < 128 → Feeds (fed (length out₀) s₀ input) (came w) out
  unfolding if◌then◌otherwise◌
  full h =
      let l : length out₀ - w < 128 = omega arith in
      ends (fed_is (length out₀ - w) s (drop at input) ∙ rw (lt-ltb (length out₀ - w) 128 l))

  module _ (room : 128 ≤ length out - w) (x : Next) (found : x ≡ next_of rest) where
    roomy : 128 ≤ length out₀ - w
    roomy = omega arith

    front : (y : Next) → x ≡ y → next_of (drop at input) ≡ y
    front y e = ap next_of (sym rest_is) ∙ sym found ∙ e

    pub waits : x ≡ Wait → Feeds (fed (length out₀) s₀ input) (came w) out
    unfolding if◌then◌otherwise◌
    waits e = ends (fed_is (length out₀ - w) s (drop at input)
        ∙ rw (le-ltb (length out₀ - w) 128 roomy, front Wait e))

    pub stops : x ≡ Stop → {out' : List ℕ} {r : ℕ} → Put out out' w r (stop_at s) →
        Feeds (fed (length out₀) s₀ input)
        (record { state = s; consumed = at; written = r; finished = true }) out'
    unfolding if◌then◌otherwise◌
    stops e {out'} {r} p =
        let f : fed (length out₀ - w) s (drop at input)
        ≡ part s 0 (stop_at s) true = fed_is (length out₀ - w) s (drop at input)
        ∙ rw (le-ltb (length out₀ - w) 128 roomy, front Stop e) in
        let t : fed (length out₀) s₀ input
        ≡ ahead at (take w out) (part s 0 (stop_at s) true) = inv.1.1.1
        ∙ ap (ahead at (take w out)) f in
        rw t (record {
          state = refl;
          consumed = sym (add-zero at);
          finished = refl;
          written = simp
              (length-append, long) p.end;
          lines = p.holds;
        })

    pub goes : (n : ℕ) → x ≡ Whole n → (r : Reply) → r ≡ perform s.tables (call_in (take n rest)) →
        {out' : List ℕ} {w' : ℕ} → Put out out' w w' (line_for s r) →
        fed (length out₀) s₀ input
        ≡ ahead (at + n) (take w' out')
        (fed (length out₀ - w') (state_of r.tables (next_number s.number)) (drop (at + n) input))
    unfolding if◌then◌otherwise◌
    goes n e r re {out'} {w'} p =
        let a : List ℕ = drop at input in
        let l : List ℕ = line_for s r in
        let u : State = state_of r.tables (next_number s.number) in
        let v : r ≡ reply_to s n a = re
        ∙ ap (λ (l : List ℕ). perform s.tables (call_in (take n l))) rest_is in
        let f : fed (length out₀ - w) s a
        ≡ ahead n l (fed ((length out₀ - w) - length l) u (drop n a)) =
        fed_is (length out₀ - w) s a
        ∙ rw (le-ltb (length out₀ - w) 128 roomy, front (Whole n) e, ← v) in
        let k : (length out₀ - w) - length l ≡ length out₀ - w' = omega (arith, p.end) in
        inv.1.1.1 ∙ ap (ahead at (take w out)) f
        ∙ rw (k, drop-drop, p.holds)
        (ahead_ahead at n (take w out) l (fed (length out₀ - w') u (drop (at + n) input)))

    pub whole_fits : (n : ℕ) → x ≡ Whole n → (0 < n) × (at + n ≤ length input)
    whole_fits n e =
        let b : (0 < n) × (n ≤ length (drop at input)) = whole_bounds (drop at input) n
        (front (Whole n) e) in
        (b.0, omega (arith, b.1, length-drop at input))
