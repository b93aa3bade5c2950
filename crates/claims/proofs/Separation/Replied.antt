-- What the two runs of one call come to: both are refused with one number, or both accept, show
-- the same and leave related tables. Assumes nothing.
use mathlib.Core.Path.{◌≡◌, refl}
use lib.IntN.{ℤ, pos}
use Rattle.laws.specs.Guarded.{Guarded}
use Rattle.laws.proofs.Cases.{Both, ok_two, settle_two}
use Rattle.records.specs.declared.tables.Tables.{Tables}
use Rattle.reply.specs.declared.Reply.{Reply}
use Rattle.reply.specs.Reply.{answered}
use Rattle.model.specs.Replies.{call, accept}
use Rattle.model.specs.Step.{shown}
use Rattle.claims.specs.Separation.{Trip}
use Rattle.claims.proofs.Separation.Agree.{Agree}

-- two replies show the same, and leave related tables
pub record Replied (x y : Trip) (a b : Reply) : Type 0 where
  pub shows : shown a ≡ shown b
  pub rel : Agree x y a.tables b.tables

-- one answer, and related tables
pub answered_two : {x y : Trip} (s t : Tables) (c : ℤ) → Agree x y s t →
    Replied x y (answered s c) (answered t c)
unfolding answered
answered_two s t c r = record { shows = refl; rel = r }

pub accept_two : {x y : Trip} (s t : Tables) → Agree x y s t → Both (Replied x y)
    (accept s) (accept t)
accept_two s t r = ok_two (answered_two s t (pos 0) r)

-- both are refused with one number, or both accept
pub call_two : {x y : Trip} (s t : Tables) (l m : Guarded Reply) → Agree x y s t →
    Both (Replied x y) l m → Replied x y (call s l) (call t m)
call_two s t l m r h = settle_two (answered s) (answered t) l m (λ c. answered_two s t c r) h
