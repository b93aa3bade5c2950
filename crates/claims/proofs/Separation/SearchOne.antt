-- An exception of a thread of x, in one run: the search for a handler makes hung-up levels unbound
-- outside y, and what becomes of the thread is x's own. Assumes nothing.
use Rattle.std.proofs.Common.{Option, Some, None}
use Prim.Native.Nat.{ℕ}
use mathlib.Core.Path.{◌≡◌, ap, ◌∙◌}
use mathlib.Core.Bool.{Bool, true, false}
use Rattle.laws.proofs.Cases.{no_both, if_on}
use Rattle.record_exception.specs.declared.Place.{Place}
use Rattle.record_exception.specs.declared.Place.TheVariants.{Debugger, OwnThread, OwnProcess}
use Rattle.record_exception.specs.declared.Place.TheVariants.{SecondChance, OfJob, OfJobDebugger}
use Rattle.record_exception.specs.declared.Place.TheVariants.{Exiting}
use Rattle.record_exception.specs.declared.Exception.{Exception}
use Rattle.record_exception.specs.Channel.{tried}
use Rattle.record_job.specs.Job.{with_level4, with_level5}
use Rattle.record_process.specs.Process.{KILL_CODE}
use Rattle.records.specs.declared.tables.Tables.{Tables}
use Rattle.reply.specs.declared.Reply.{Reply}
use Rattle.reply.specs.Reply.{reply}
use Rattle.records.specs.Tables.{job_at, put_job}
use Rattle.model.specs.declared.Search.{Search}
use Rattle.model.specs.Exception.{route_of, process_of, own_job, level_at, put_level_at, pass_over}
use Rattle.model.specs.Exception.{over_tables, unhandled, deliver, delivered, raise_exiting}
use Rattle.model.specs.Exception.{raise, close}
use Rattle.claims.specs.Separation.{Trip}
use Rattle.claims.proofs.Found.{After}
use Rattle.claims.proofs.Searches.{Found, Passing, first_found, next_found}
use Rattle.claims.proofs.Separation.Agree.{Agree, JobAlike, up_not_y}
use Rattle.claims.proofs.Separation.Fits.{fits_level1, fits_level2, fits_level3, fits_level4}
use Rattle.claims.proofs.Separation.Fits.{fits_level5, fits_waits, fits_end_wait}
use Rattle.claims.proofs.Separation.Writes.{put_job_one}
use Rattle.claims.proofs.Separation.Stores.{process_one, thread_one, tried_open}
use Rattle.claims.proofs.Separation.CascadeOne.{exit_process_one}
use Rattle.claims.proofs.Separation.Frames.{Frame, pass_over_frame, own_frame}

-- the tables that a reply leaves are still related to the other run's
abbrev pub Left : Trip → Trip → Tables → Reply → Type 0
Left x y t = After (λ u. Agree x y u t)

-- in u a thread n of x is in a process of x, below a job outside y
pub record Within (x y : Trip) (t : Tables) (n : ℕ) (u : Tables) : Type 0 where
  pub rel : Agree x y u t
  pub thread : x.threads n ≡ true
  pub process : x.processes (process_of u n) ≡ true
  pub job : y.jobs (own_job u n) ≡ false

-- a place of a job is outside a trip
abbrev pub Outside : Trip → Place → Type 0
Outside w Debugger = Unit {0}
Outside w OwnThread = Unit {0}
Outside w OwnProcess = Unit {0}
Outside w SecondChance = Unit {0}
Outside w (OfJob j) = w.jobs j ≡ false
Outside w (OfJobDebugger j) = w.jobs j ≡ false
Outside w Exiting = Unit {0}

module _ {x y : Trip} {t : Tables} where
  -- ---- A level that is passed over -----------------------------------------------------------

  module _ {u : Tables} (r : Agree x y u t) (j : ℕ) (h : y.jobs j ≡ false) where
    try4_one : Agree x y (put_job u j (with_level4 (job_at u j) (tried (job_at u j).level4))) t
    try4_one =
        let a : JobAlike x y j (job_at u j) (job_at t j) = r.jobs j in
        put_job_one r j _
        (record {
          fits₁ = fits_level4 (job_at u j) a.fits₁ _;
          fits₂ = a.fits₂;
          made = a.made;
          parent = a.parent;
          killed = a.killed;
          same = λ e. no_both e h;
          open4 = λ e f g. tried_open (job_at u j).level4 ∙ a.open4 e f g;
          open5 = a.open5;
        })

    try5_one : Agree x y (put_job u j (with_level5 (job_at u j) (tried (job_at u j).level5))) t
    try5_one =
        let a : JobAlike x y j (job_at u j) (job_at t j) = r.jobs j in
        put_job_one r j _
        (record {
          fits₁ = fits_level5 (job_at u j) a.fits₁ _;
          fits₂ = a.fits₂;
          made = a.made;
          parent = a.parent;
          killed = a.killed;
          same = λ e. no_both e h;
          open4 = a.open4;
          open5 = λ e f g. tried_open (job_at u j).level5 ∙ a.open5 e f g;
        })

  module _ {n : ℕ} {u : Tables} (w : Within x y t n u) where
    pass_agree : (place : Place) → Outside y place → Agree x y (pass_over u n place) t
    unfolding pass_over put_level_at level_at
    pass_agree Debugger h =
        process_one w.rel _ w.process _ (fits_level1 _ (w.rel.processes _).fits₁ _)
    pass_agree OwnThread h =
        thread_one w.rel n w.thread _ (fits_level2 _ (w.rel.threads n).fits₁ _)
    pass_agree OwnProcess h =
        process_one w.rel _ w.process _ (fits_level3 _ (w.rel.processes _).fits₁ _)
    pass_agree SecondChance h =
        process_one w.rel _ w.process _ (fits_level1 _ (w.rel.processes _).fits₁ _)
    pass_agree (OfJob j) h = try4_one w.rel j h
    pass_agree (OfJobDebugger j) h = try5_one w.rel j h
    pass_agree Exiting h =
        process_one w.rel _ w.process _ (fits_level1 _ (w.rel.processes _).fits₁ _)

    pub pass_one : (place : Place) → Outside y place → Within x y t n (pass_over u n place)
    pass_one place h =
        let f : Frame u (pass_over u n place) = pass_over_frame u n place in
        record {
          rel = pass_agree place h;
          thread = w.thread;
          process = ap x.processes (f.process n) ∙ w.process;
          job = ap y.jobs (own_frame f n) ∙ w.job;
        }

  -- ---- The order of handlers -----------------------------------------------------------------

  passing : (n : ℕ) → Passing n (Within x y t n) (Outside y)
  passing n =
      record {
        pass = λ u place h w. pass_one w place h;
        debugger = tt;
        thread = tt;
        process = tt;
        second = tt;
        job = λ u w. w.job;
        job_debugger = λ u w. w.job;
        job_up = λ u j i w e h. up_not_y (w.rel.jobs j).fits₁ i h e;
        job_debugger_up = λ u j i w e h. up_not_y (w.rel.jobs j).fits₁ i h e;
      }

  -- ---- What becomes of the thread ------------------------------------------------------------

  module _ {n : ℕ} where
    over_one : {u : Tables} → Within x y t n u → Agree x y (over_tables u n) t
    over_one w = thread_one w.rel n w.thread _ (fits_end_wait _ (w.rel.threads n).fits₁)

    unhandled_one : {u : Tables} → Within x y t n u → (kind : ℕ) → Agree x y (unhandled u n kind) t
    unfolding unhandled
    unhandled_one w kind =
        if_on (λ (z : Tables). Agree x y z t) _ _ _ (λ e. over_one w)
        (λ e. exit_process_one (over_one w) _ KILL_CODE w.process)

    deliver_one : (at : Option Place) (u : Tables) → Within x y t n u → (kind : ℕ) (second : Bool) →
        Left x y t (deliver at u n kind second)
    unfolding deliver reply
    deliver_one None u w kind second = record { tables = unhandled_one w kind }
    deliver_one (Some place) u w kind second =
        record {
          tables = thread_one w.rel n w.thread _
              (fits_waits _ (w.rel.threads n).fits₁ _ _);
        }

    delivered_one : (a : Search) → Found (Within x y t n) (Outside y) a →
        (kind : ℕ) (second : Bool) →
        Left x y t (delivered a n kind second)
    delivered_one a e kind second = deliver_one a.at a.tables e.left kind second

    raise_exiting_one : (u : Tables) → Within x y t n u → (kind : ℕ) →
        Left x y t (raise_exiting u n kind)
    unfolding raise_exiting reply
    raise_exiting_one u w kind =
        if_on (Left x y t) _ _ _ (λ e. record { tables = (pass_one w Exiting tt).rel })
        λ e. if_on (Left x y t) _ _ _ (λ f. record { tables = w.rel })
        (λ f. record {
          tables = thread_one w.rel n w.thread _
              (fits_waits _ (w.rel.threads n).fits₁ _ _);
        })

    pub raise_one : (u : Tables) → Within x y t n u → (kind : ℕ) → Left x y t (raise u n kind)
    unfolding raise reply
    raise_one u w kind =
        if_on (Left x y t) _ _ _ (λ e. raise_exiting_one u w kind)
        λ e. if_on (Left x y t) _ _ _ (λ f. record { tables = w.rel })
        (λ f. delivered_one _ (first_found n _ _ (passing n) (route_of kind) u w) kind false)

    pub close_one : (u : Tables) → Within x y t n u → (e : Exception) → Outside y e.place →
        Left x y t (close u n e)
    unfolding close reply
    close_one u w e h =
        if_on (Left x y t) _ _ _ (λ f. record { tables = over_one w })
        (λ f. delivered_one _ (next_found n _ _ (passing n) e.place u e w h) e.kind
        e.second)
