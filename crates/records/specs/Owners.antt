-- Names whose table depends on a number before them: the owner of a channel level (12 and 13), the
-- task of a kind.
use Rattle.std.specs.Prelude.{Option, Some, None}
use Rattle.std.specs.Prelude.{ℕ}
use Rattle.laws.specs.Choice.{◌=?◌, ◌<?◌, if◌then◌otherwise◌}
use Rattle.record_exception.specs.declared.Level.{Level}
use Rattle.record_job.specs.declared.Job.{Job}
use Rattle.record_job.specs.Job.{with_level4, with_level5}
use Rattle.record_process.specs.declared.Process.{Process}
use Rattle.record_process.specs.Process.{with_level1, with_level3}
use Rattle.record_thread.specs.declared.Thread.{Thread}
use Rattle.record_thread.specs.Thread.{with_level2}
use Rattle.records.specs.declared.tables.Tables.{Tables}
use Rattle.records.specs.Tables.{job_at, process_at, thread_at, found_job, found_process, found_thread}
use Rattle.records.specs.Tables.{put_job, put_process, put_thread}

-- ---- Levels: 1 and 3 are a process's, 2 is a thread's, 4 and 5 are a job's -------------------

-- how many names the owners of a level have
unfoldable pub owners_of : ℕ → ℕ
owners_of level = if level =? 2 then 128 otherwise if level <? 4 then 64 otherwise 32

unfoldable pub process_level : Process → ℕ → Level
process_level q level = if level =? 1 then q.level1 otherwise q.level3

unfoldable pub job_level : Job → ℕ → Level
job_level v level = if level =? 4 then v.level4 otherwise v.level5

unfoldable pub level_of_thread : Option Thread → Option Level
level_of_thread None = None
level_of_thread (Some v) = Some v.level2

unfoldable pub level_of_process : Option Process → ℕ → Option Level
level_of_process None level = None
level_of_process (Some q) level = Some (process_level q level)

unfoldable pub level_of_job : Option Job → ℕ → Option Level
level_of_job None level = None
level_of_job (Some v) level = Some (job_level v level)

-- the level of a made owner
unfoldable pub found_level : Tables → ℕ → ℕ → Option Level
found_level t level n =
    if level =? 2 then level_of_thread (found_thread t n) otherwise
    if level <? 4 then level_of_process (found_process t n) level otherwise
    level_of_job (found_job t n) level

unfoldable pub put_level : Tables → ℕ → ℕ → Level → Tables
put_level t level n l =
    if level =? 1 then put_process t n (with_level1 (process_at t n) l) otherwise
    if level =? 2 then put_thread t n (with_level2 (thread_at t n) l) otherwise
    if level =? 3 then put_process t n (with_level3 (process_at t n) l) otherwise
    if level =? 4 then put_job t n (with_level4 (job_at t n) l) otherwise
    put_job t n (with_level5 (job_at t n) l)

-- ---- Tasks: kind 0 is a job, 1 a process, 2 a thread -----------------------------------------

-- how many names a kind has
unfoldable pub tasks_of : ℕ → ℕ
tasks_of kind = if kind =? 0 then 32 otherwise if kind =? 1 then 64 otherwise 128

-- whether a lookup found a task
unfoldable pub as_task : {A : Type 0} → Option A → Option Unit
as_task None = None
as_task (Some v) = Some tt

unfoldable pub found_task : Tables → ℕ → ℕ → Option Unit
found_task t kind n =
    if kind =? 0 then as_task (found_job t n) otherwise
    if kind =? 1 then as_task (found_process t n) otherwise
    as_task (found_thread t n)
