-- What is done with the recorder's part of a stream.
use Rattle.std.specs.Prelude.{ℕ, ◌-◌, ◌≡◌, not, List, take, drop}
use Rattle.stream_state.specs.Recorder.{Part}
use Rattle.buffer.specs.declared.Progress.{Progress}

-- p is the part of the first `have` bytes of buf: its lines are what is handed to the writer, and the
-- bytes that it did not use are kept, in their order
pub record Advances (p : Part) (have : ℕ) (buf : List ℕ) (r : Progress) (buf' out' : List ℕ) : Type 0 where
  pub state : r.state ≡ p.state
  pub lines : take r.written out' ≡ p.lines
  pub going : r.going ≡ not p.finished
  pub count : r.have ≡ have - p.consumed
  pub kept : take r.have buf' ≡ take r.have (drop p.consumed buf)
