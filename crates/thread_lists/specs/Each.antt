-- The threads that a process lists, a change of each, and whether one bars it.
use Rattle.std.specs.Prelude.{ℕ, Bool, false, List}
use Rattle.laws.specs.Choice.{◌=?◌, ◌and◌, if◌then◌otherwise◌}
use Rattle.laws.specs.Lists.{any}
use Rattle.record_thread.specs.declared.Thread.{Thread}
use Rattle.record_thread.specs.Thread.{FULL, suspend, resume, kill, thread_of}
use Rattle.thread_lists.specs.declared.Each.{Each}
use Rattle.thread_lists.specs.declared.Each.TheVariants.{Suspend, Resume, Kill}

-- ---- Any change ------------------------------------------------------------------------------

unfoldable pub changed_in : (Thread → Thread) → ℕ → Thread → Thread
changed_in f p v = if thread_of v p then f v otherwise v

-- does a thread that process p lists bar it, by b?
abbrev pub any_bars : (b : Thread → Bool) → ℕ → List Thread → Bool
any_bars b p threads = any (λ v. thread_of v p and b v) threads

-- ---- The changes that calls make -------------------------------------------------------------

abbrev pub SUSPEND : Each
SUSPEND = Suspend

abbrev pub RESUME : Each
RESUME = Resume

-- suspended once more, resumed once, or killed
unfoldable pub one_of : Each → Thread → Thread
one_of Suspend v = suspend v
one_of Resume v = resume v
one_of Kill v = kill v

-- a full count bars a suspension, a count of 0 a resumption; nothing bars a kill
unfoldable pub bars : Each → Thread → Bool
bars Suspend v = v.suspends =? FULL
bars Resume v = v.suspends =? 0
bars Kill v = false
