-- One turn of the loop of `feed`: a command performed and its line written. Assumes nothing.
--     Held      the loop's invariant: what is left to do from here, behind what is done, is the whole
--     turns     the invariant after a command
use Prim.Native.Nat.{ℕ, ◌+◌, ◌-◌, ◌≤◌, ◌<◌}
use native.Mathlib.Omega.{arith}
use mathlib.Core.Path.{◌≡◌, sym, ap, ◌∙◌}
use mathlib.Core.List.{List}
use lib.ListN.{length, take, drop}
use Rattle.records.specs.declared.tables.Tables.{Tables}
use Rattle.commands.specs.declared.Next.{Next}
use Rattle.commands.specs.declared.Next.TheVariants.{Whole}
use Rattle.commands.specs.Commands.{next_of}
use Rattle.reply.specs.declared.Shown.{Shown}
use Rattle.reply.specs.Reply.{showing}
use Rattle.calls.specs.Calls.{call_at, call_in, perform}
use Rattle.calls.proofs.Whole.{call_in_lem}
use Rattle.lines.specs.Line.{line_of, Put, within}
use Rattle.lines.proofs.Puts.{roomy}
use Rattle.stream_state.specs.declared.State.{State}
use Rattle.stream_state.specs.State.{next_number, state_of}
use Rattle.stream_state.specs.Recorder.{fed, ahead}
use Rattle.stream_state.proofs.Feeding.{goes, whole_fits}

abbrev pub Held : (input out₀ : List ℕ) → State → (out : List ℕ) → Tables → (number at written : ℕ) → Type 0
Held input out₀ s₀ out t number at written =
    (at ≤ length input) × ((written ≤ length out) × ((length out ≡ length out₀) ×
    (fed (length out₀) s₀ input
    ≡ ahead at (take written out) (fed (length out₀ - written) (state_of t number) (drop at input)))))

-- what is left of the input, as the code has it
abbrev pub rest : (input : List ℕ) → ℕ → List ℕ
rest input at = take (length input - at) (drop at input)

module _ (input out₀ : List ℕ) (s₀ : State) (out : List ℕ) (t : Tables) (number at w : ℕ)
    (held : Held input out₀ s₀ out t number at w) (room : 128 ≤ length out - w)
    {x : Next} (found : x ≡ next_of (rest input at)) {n : ℕ} (whole : x ≡ Whole n) where
  pub fits : at + n ≤ length input
  fits = (whole_fits input out₀ out s₀ (state_of t number) at w held room x found n whole).1

  some : 0 < n
  some = (whole_fits input out₀ out s₀ (state_of t number) at w held room x found n whole).0

  -- a turn uses up some of the input
  pub falls : length input - (at + n) < length input - at
  falls = omega (arith, fits, some)

  -- the command is performed, and its line is written
  pub turns : (u : Tables) (m : Shown) {next : ℕ} {out' : List ℕ} {w' : ℕ} →
      showing u m ≡ perform t (call_at (take n (rest input at))) → next ≡ next_number number →
      Put out out' w w' (within (length out - w) (line_of next m.answer m.fields m.policy)) → w' ≤ w + 128 →
      length out' ≡ length out → Held input out₀ s₀ out' u next (at + n) w'
  unfolding showing
  turns u m {next} {out'} {w'} e k put l same =
      let bs : List ℕ = rest input at in
      let done : showing u m ≡ perform t (call_in (take n bs)) =
      e ∙ sym (ap (perform t) (call_in_lem bs n (sym found ∙ whole))) in
      let line : Put out out' w w' (line_of (next_number number) m.answer m.fields m.policy) =
      rw (← k) (roomy room put) in (
        fits,
        (
          omega (arith, l, same, room, held.1.0),
          (
            same ∙ held.1.1.0,
            rw k (goes input out₀ out s₀ (state_of t number) at w held room x found n whole (showing u m) done line),
          ),
        ),
      )
