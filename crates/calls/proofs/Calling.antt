-- The call that a command's bytes stand for, where its first three bytes were read and the match has found the code.
--     call_at_lem        a code that was found
--     no_other       a code that is none of the 31
-- Assumes nothing.
use Prim.Native.Nat.{ℕ, ◌≤◌, ◌<◌}
use mathlib.Core.Path.{◌≡◌, refl, sym, ◌∙◌, ap}
use mathlib.Core.List.{List, [], ◌∷◌}
use lib.ListN.{take}
use lib.Seq.{take-append-le}
use borrow.Author.Tests.{le-ltb, lt-ltb, ne_eqb}
use Rattle.job_policy.specs.declared.BasicPolicy.{BasicPolicy}
use Rattle.records.specs.declared.tables.Tables.{Tables}
use Rattle.std.proofs.Common.{Result}
use Rattle.error.specs.declared.Refusal.{Refusal}
use Rattle.error.specs.Numbers.{answer_of}
use Rattle.exception.specs.declared.Raised.{Raised}
use Rattle.exception.specs.Raise.{raised_in}
use Rattle.reply.specs.declared.Information.{Information}
use Rattle.reply.specs.declared.Reply.{Reply}
use Rattle.reply.specs.declared.Shown.{Shown}
use Rattle.reply.specs.Reply.{answered, informed, showing, Shows, shown_answer, shown_by}
use Rattle.model.specs.JobCalls.{set_policy_basic}
use Rattle.model.specs.Step.{step}
use Rattle.laws.specs.Choice.{if◌then◌otherwise◌}
use Rattle.commands.specs.Commands.{byte, pairs_at, no_pair, fifteen_at}
use Rattle.calls.specs.Calls.{no_call, call_by, call_at, perform, policy_call}

pub call_at_lem : (bs : List ℕ) {a b code : ℕ} (k : ℕ) → a ≡ byte bs 1 → b ≡ byte bs 2 → code ≡ byte bs 0 → code ≡ k →
    call_by k a b (byte bs 3) bs ≡ call_at bs
call_at_lem bs k first second e m = rw (sym m ∙ e, first, second)

-- what a call comes to, by the code that was found
module _ (t : Tables) (bs : List ℕ) {a b code : ℕ} {x : Reply} where
  pub here : (k : ℕ) → a ≡ byte bs 1 → b ≡ byte bs 2 → code ≡ byte bs 0 → code ≡ k →
      x ≡ perform t (call_by k a b (byte bs 3) bs) → x ≡ perform t (call_at bs)
  here k first second e m h = h ∙ ap (perform t) (call_at_lem bs k first second e m)

  pub nowhere : a ≡ byte bs 1 → b ≡ byte bs 2 → code ≡ byte bs 0 → call_by code a b (byte bs 3) bs ≡ no_call →
      x ≡ perform t no_call → x ≡ perform t (call_at bs)
  nowhere first second e n h = h ∙ ap (perform t) (sym n ∙ call_at_lem bs code first second e refl)

pub no_other : (n a b c : ℕ) (bs : List ℕ) → (n ≡ 1 → ⊥) → (n ≡ 2 → ⊥) → (n ≡ 3 → ⊥) → (n ≡ 4 → ⊥) →
    (n ≡ 5 → ⊥) → (n ≡ 6 → ⊥) → (n ≡ 7 → ⊥) → (n ≡ 8 → ⊥) → (n ≡ 9 → ⊥) → (n ≡ 10 → ⊥) → (n ≡ 11 → ⊥) →
    (n ≡ 12 → ⊥) → (n ≡ 13 → ⊥) → (n ≡ 14 → ⊥) → (n ≡ 15 → ⊥) → (n ≡ 16 → ⊥) → (n ≡ 17 → ⊥) → (n ≡ 18 → ⊥) →
    (n ≡ 19 → ⊥) → (n ≡ 20 → ⊥) → (n ≡ 21 → ⊥) → (n ≡ 22 → ⊥) → (n ≡ 23 → ⊥) → (n ≡ 24 → ⊥) → (n ≡ 25 → ⊥) →
    (n ≡ 26 → ⊥) → (n ≡ 27 → ⊥) → (n ≡ 28 → ⊥) → (n ≡ 29 → ⊥) → (n ≡ 30 → ⊥) → (n ≡ 31 → ⊥) →
    call_by n a b c bs ≡ no_call
unfolding call_by if◌then◌otherwise◌
no_other n a b c bs h1 h2 h3 h4 h5 h6 h7 h8 h9 h10 h11 h12 h13 h14 h15 h16 h17 h18 h19 h20 h21 h22 h23 h24 h25
    h26 h27 h28 h29 h30 h31 =
    rw (
      ne_eqb n 1 h1,
      ne_eqb n 2 h2,
      ne_eqb n 3 h3,
      ne_eqb n 4 h4,
      ne_eqb n 5 h5,
      ne_eqb n 6 h6,
      ne_eqb n 7 h7,
      ne_eqb n 8 h8,
      ne_eqb n 9 h9,
      ne_eqb n 10 h10,
      ne_eqb n 11 h11,
      ne_eqb n 12 h12,
      ne_eqb n 13 h13,
      ne_eqb n 14 h14,
      ne_eqb n 15 h15,
      ne_eqb n 16 h16,
      ne_eqb n 17 h17,
      ne_eqb n 18 h18,
      ne_eqb n 19 h19,
      ne_eqb n 20 h20,
      ne_eqb n 21 h21,
      ne_eqb n 22 h22,
      ne_eqb n 23 h23,
      ne_eqb n 24 h24,
      ne_eqb n 25 h25,
      ne_eqb n 26 h26,
      ne_eqb n 27 h27,
      ne_eqb n 28 h28,
      ne_eqb n 29 h29,
      ne_eqb n 30 h30,
      ne_eqb n 31 h31,
    )

-- ---- 0f ------------------------------------------------------------------------------------------------

-- the entries past the four
no_pairs : List BasicPolicy
no_pairs =
    no_pair ∷ no_pair ∷ no_pair ∷ no_pair ∷ no_pair ∷ no_pair ∷ no_pair ∷ no_pair ∷ no_pair ∷ no_pair ∷ no_pair ∷ []

module _ (t : Tables) (j option : ℕ) (bs : List ℕ) {n : ℕ} (count : n ≡ byte bs 3) where
  -- more than four entries are no command
  pub above_four : {x : Reply} → 4 < n → x ≡ perform t no_call → x ≡ perform t (policy_call j option (byte bs 3) bs)
  unfolding if◌then◌otherwise◌
  above_four h e = e ∙ rw (← count, lt-ltb 4 n h) refl

  -- of the fifteen that are read the four are the command's
  pub up_to_four : {x : Reply} {l : List BasicPolicy} → n ≤ 4 → l ≡ fifteen_at bs →
      x ≡ set_policy_basic t j option (take n l) → x ≡ perform t (policy_call j option (byte bs 3) bs)
  unfolding perform step if◌then◌otherwise◌ no_pairs
  up_to_four {x} {l} h e f =
      f ∙ rw (e, ← count, le-ltb 4 n h) (ap (set_policy_basic t j option) (take-append-le n (pairs_at bs) no_pairs h))

-- ---- What is shown, by the outcome ---------------------------------------------------------------------

module _ (t : Tables) {m : Shown} {x : Reply} where
  pub settles : (r : Result Unit Refusal) → m ≡ shown_answer (answer_of r) → answered t (answer_of r) ≡ x →
      showing t m ≡ x
  unfolding showing answered
  settles r e h = rw e h

  pub informs : (r : Result Information Refusal) → m ≡ shown_by r → informed t r ≡ x → showing t m ≡ x
  unfolding informed
  informs r e h = rw e h

pub raises : (t : Tables) (m : Shown) {x : Reply} (r : Result Raised Refusal) →
    Shows (λ u. raised_in u r) m → raised_in t r ≡ x → showing t m ≡ x
raises t m r e h = e t ∙ h
