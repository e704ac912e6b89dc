-- A walk from a begun context: the whole run, and one function by itself. Assumes nothing.
use mathlib.Core.Path.{◌≡◌, refl, sym, ap, ◌∙◌, subst}
use mathlib.Core.Bool.{Bool, true, false, cond}
use mathlib.Core.List.{List, [], ◌∷◌}
use Prim.Native.Nat.{ℕ, ◌≤◌, ◌<◌}
use native.Mathlib.Omega.{arith}
use lib.ListN.{length}
use Rattle.tables.specs.Record.{words, is_do}
use Rattle.tables.specs.Forest.{children}
use Rattle.pool.specs.Consts.{put3, laid}
use Rattle.pool.proofs.LaidLaws.{told_start}
use Rattle.rules.specs.Marker.{Pop, LoadLocals, Return}
use Rattle.rules.specs.Step.{push_op, expr, Step}
use Rattle.rules.specs.Arms.{stream_steps}
use Rattle.rules.specs.Run.{Error, Side, State, side, anew, nested, nothing, idle, exec, alone}
use Rattle.rules.specs.Out.{consts}
use Rattle.rules.proofs.Enough.{run_enough}
use Rattle.std.specs.Borrow.{MutBor}
use Rattle.context.specs.Words.{limit}
use Rattle.context.specs.Sinks.{with_code, with_consts, beginning}
use Rattle.context.specs.Rep.{lent_words, Lent, Walk, within, mode, Scoped, lay, note, Flat, Noted, Rep, Sim}
use Rattle.context.specs.Does.{noted_look, near, own_stream, does, doing}
use Rattle.context.specs.declared.Context.{Context}
use Rattle.codegen.specs.declared.walks.Counted.{Counted}
use Rattle.context.proofs.Basics.{clash}
use Rattle.context.proofs.InsideLaws.{started}
use Rattle.context.proofs.VisitLaws.{stream_does}
use Rattle.codegen.specs.Walks.{stack_code, noted_run, single, Walkable, Walked, Streamed}

-- no error is noted yet
none_yet : (o cs : List ℕ) → Noted o cs [] o cs
unfolding note
none_yet o cs = record { errors = λ lt. refl; consts = refl }

-- Null is laid, and nothing else
null_first : (recs code cs cs' : List ℕ) → cs' ≡ put3 cs 0 0 0 0 → Flat recs code cs [] code cs' 0 1
unfolding lay consts laid
null_first recs code cs cs' e =
    record { wrote = λ room. record { words = refl; table = e; told = told_start recs; entries = refl }; place = refl }

-- the side of a function that is begun by itself
abbrev alone_side : Side
alone_side = record { errors = []; met = 1; streams = [] }

module _ (ns recs : List ℕ) where
  abbrev e : Lent
  e = lent_words recs ns

  abbrev whole_walk : Walk
  whole_walk = record { code = stack_code; nest = true; function = 0 }

  module _ {errors cs : MutBor (List ℕ)} {x x' : Context} (begun : x ≡ beginning errors cs stack_code true 0)
      (sim : Sim e x x' (λ c. nested c.nest 0 (words recs 0) (own_stream e (within 0 c) 0))) (z : Walkable ns recs) where
    whole_rep : Rep whole_walk recs (with_code errors.now (with_consts cs.now x)) (noted_run ns recs) x'
    unfolding own_stream
    whole_rep =
        subst (λ (A : State). Rep whole_walk recs (with_code errors.now (with_consts cs.now x)) A x') (run_enough stack_code (noted_look ns) recs 128 z.shallow)
        (sim.sim z.scoped whole_walk (with_code errors.now (with_consts cs.now x)) nothing
        (started errors.now cs.now errors cs stack_code true 0 (side nothing) refl (λ n. refl) (λ n. absurd (clash n)) (λ n. none_yet errors.now cs.now) begun))

    pub whole_walked : Walked (noted_run ns recs) (record { flow = x'.flow; functions = x'.functions; errors = x'.error_count })
    whole_walked = let h = whole_rep in record { flow = h.flow; errors = h.errors; met = h.met refl }

    -- the slice that was written is the one that was lent
    pub whole_words : {final : List ℕ} → (errors.ghost_name ≡ x'.code.ghost_name → final ≡ x'.code.now)
        → length (side (noted_run ns recs)).errors < limit → final ≡ note errors.now (side (noted_run ns recs)).errors
    whole_words k lt = k (sym (whole_rep.code ∙ ap (λ (y : Context). y.code.ghost_name) begun)) ∙ (whole_rep.noted refl).errors lt

  module _ (r : ℕ) where
    abbrev flat_walk : Walk
    flat_walk = record { code = stack_code; nest = false; function = r }

    -- the steps around a function's body run no function
    body_idle : (A : State) → does e flat_walk r (stream_steps (words recs r)) A ≡ own_stream e flat_walk r A
    unfolding doing does exec
    body_idle A = go (is_do (words recs r)) ∙ sym (ap (λ (f : State → State). f A) (stream_does e flat_walk r))
      where
        list : Bool → List Step
        list b = cond b (expr 0 ∷ expr 1 ∷ push_op Pop 0 ∷ push_op LoadLocals 0 ∷ push_op Return 0 ∷ []) (expr 0 ∷ expr 1 ∷ push_op Return 0 ∷ [])

        by : (State → State) → Bool → State
        by v b = exec (noted_look ns) (mode flat_walk) (words recs r) r (words recs r) (children recs r) (near e flat_walk r) v (list b) [] A

        go : (b : Bool) → by (own_stream e flat_walk r) b ≡ by idle b
        go true = refl
        go false = refl

    module _ {code cs : MutBor (List ℕ)} {before : List ℕ} {x x' : Context} (q : cs.now ≡ put3 before 0 0 0 0) (begun : x ≡ beginning code cs stack_code false r)
        (sim : Sim e x x' (λ c. does e c r (stream_steps (words recs r)))) (z : Scoped e) where
      stream_rep : Rep flat_walk recs (with_code code.now (with_consts before x)) (single ns recs r) x'
      unfolding own_stream alone
      stream_rep =
          subst (λ (A : State). Rep flat_walk recs (with_code code.now (with_consts before x)) A x') (body_idle (anew (record { errors = []; met = 0; streams = [] })))
          (sim.sim z flat_walk (with_code code.now (with_consts before x)) (anew (record { errors = []; met = 0; streams = [] }))
          (started code.now before code cs stack_code false r alone_side refl (λ n. absurd (clash (sym n))) (λ n. null_first recs code.now before cs.now q)
          (λ n. absurd (clash (sym n))) begun))

      pub stream_walked : {code' cs' : List ℕ} → (code.ghost_name ≡ x'.code.ghost_name → code' ≡ x'.code.now)
          → (cs.ghost_name ≡ x'.consts.ghost_name → cs' ≡ x'.consts.now)
          → Streamed recs (single ns recs r) code.now before code' cs' (record { markers = x'.marker_count; labels = x'.label_count; consts = x'.const_count })
      stream_walked {code'} {cs'} k l =
          let h = stream_rep in
          let n : Counted = record { markers = x'.marker_count; labels = x'.label_count; consts = x'.const_count } in
          rw (k (sym (h.code ∙ ap (λ (y : Context). y.code.ghost_name) begun)), l (sym (h.consts ∙ ap (λ (y : Context). y.consts.ghost_name) begun)))
          (record { wrote = (h.flat refl).wrote; place = (h.flat refl).place; labels = h.labels })

-- no error, no word
pub none_noted : (ws : List ℕ) (es : List Error) (n : ℕ) → n ≡ length es → n ≤ 0 → ws ≡ note ws es
unfolding note
none_noted ws [] n e h = refl
none_noted ws (x ∷ es) n e h = absurd (omega arith)
