-- What the methods of the writer ask and do.
use Rattle.std.specs.Prelude.{ℕ, ◌+◌, ◌≡◌, ◌≤◌, List, length}
use Rattle.lines.specs.declared.Writer.{Writer}
use Rattle.lines.specs.Line.{Put}

-- n bytes more go into the buffer
abbrev pub HasRoom : Writer → ℕ → Type 0
HasRoom w n = w.at + n ≤ length w.out.now

-- text follows what was written, in the same buffer; it has `most` bytes or fewer
pub record Appends (most : ℕ) (before after : Writer) (text : List ℕ) : Type 0 where
  pub same : after.out.ghost_name ≡ before.out.ghost_name
  pub long : length after.out.now ≡ length before.out.now
  pub put : Put before.out.now after.out.now before.at after.at text
  pub short : length text ≤ most
