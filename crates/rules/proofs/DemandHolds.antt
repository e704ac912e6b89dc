-- Demand 3: it holds of every function of a run that ends without an error. Assumes nothing.
use mathlib.Core.Path.{◌≡◌, sym, ap, subst, ◌∙◌}
use mathlib.Core.List.{List, [], reverse_aux, reverse_aux-reverse_aux-nil}
use Prim.Native.Nat.{ℕ, suc, ◌<◌}
use native.Mathlib.Omega.{arith}
use lib.ListN.{length, get_or, length-reverse_aux}
use Rattle.tables.specs.Record.{words}
use Rattle.tables.specs.Forest.{children, root, own_tree}
use Rattle.opcode.specs.Kinds.{operand_kind}
use Rattle.pool.specs.Value.{Const}
use Rattle.pool.specs.Names.{Semantic, names}
use Rattle.rules.specs.declared.StackCode.{StackCode}
use Rattle.rules.specs.Marker.{Mark}
use Rattle.rules.specs.Run.{look, Loop, Stream, side, run}
use Rattle.rules.specs.Out.{consts, marker_words, stream_numbered}
use Rattle.rules.specs.Counts.{labels_counted}
use Rattle.rules.specs.Around.{Around}
use Rattle.rules.specs.Demand.{code, operand, Labels, Loops, Constants, WithinFound, FunctionSound, Demand3, record_of}
use Rattle.rules.proofs.Visits.{body_of, stream_at}
use Rattle.rules.proofs.Writes.{Clean}
use Rattle.rules.proofs.Numbers.{run_numbered, stream_found}
use Rattle.rules.proofs.Streams.{run_stream}
use Rattle.rules.proofs.Count.{inside_at}
use Rattle.rules.proofs.Right.{Right, right}
use Rattle.rules.proofs.Known.{AllKnown, run_known}
use Rattle.rules.proofs.Shapes.{Shaped}
use Rattle.rules.proofs.LabelsRun.{met_counted}
use Rattle.rules.proofs.OnWords.{blank, words_of, marker_words_are}
use Rattle.rules.proofs.LabelPlaces.{labels_right}
use Rattle.rules.proofs.LoopPlaces.{break_loop, continue_loop, continues_right, breaks_right}
use Rattle.rules.proofs.ConstPlaces.{constants_right, functions_right}
use Rattle.rules.proofs.NamePlaces.{body_named, operands_right, captures_right}

-- what holds of a function's stream by its record alone
pub record Sound (t : Semantic) (recs : List ℕ) (x : Stream) : Type 0 where
  pub labels : Labels (marker_words (consts x.marks) x.marks []) (length x.marks) x.labels
  pub loops : Loops recs x (marker_words (consts x.marks) x.marks []) (length x.marks)
  pub constants : Constants (consts x.marks) (marker_words (consts x.marks) x.marks []) (length x.marks)
  pub operands : (i : ℕ) → i < length x.marks
      → WithinFound (consts x.marks) (names t x.number) (operand_kind (code (marker_words (consts x.marks) x.marks []) i))
      (operand (marker_words (consts x.marks) x.marks []) i)

module _ (sc : StackCode) (t : Semantic) (recs : List ℕ) (r : ℕ) where
  abbrev xs : List Mark
  xs = (body_of sc (look t) recs r).code 0 []

  abbrev log : List Loop
  log = (body_of sc (look t) recs r).log 0

  abbrev cs : List Const
  cs = consts (reverse_aux xs [])

  -- the words of the stream, oldest first, and how many markers there are
  words_are : marker_words cs (reverse_aux xs []) [] ≡ words_of cs xs
  words_are = marker_words_are cs xs

  size : length (reverse_aux xs []) ≡ length xs
  size = length-reverse_aux xs [] ∙ omega arith

  written : (i : ℕ) → record_of (get_or (reverse_aux (reverse_aux xs []) []) i blank) ≡ record_of (get_or xs i blank)
  written i = ap (λ (ms : List Mark). record_of (get_or ms i blank)) (reverse_aux-reverse_aux-nil xs [])

  is_right : Right (children recs r) log (body_of sc (look t) recs r).count xs
  is_right = right sc (look t) r (words recs r) (children recs r)

  onto : (P : List ℕ → ℕ → Type 0) → P (words_of cs xs) (length xs) → P (marker_words cs (reverse_aux xs []) []) (length (reverse_aux xs []))
  onto P p = subst (λ (ws : List ℕ). P ws (length (reverse_aux xs []))) (sym words_are) (subst (λ (n : ℕ). P (words_of cs xs) n) (sym size) p)

  loops_right : Loops recs (stream_at sc (look t) recs r) (words_of cs xs) (length xs)
  loops_right =
      record {
        breaks = λ i h e.
            let z = break_loop cs (children recs r) log (body_of sc (look t) recs r).count xs is_right i h e in
            (z.0, z.1, subst (λ (q : ℕ). Around q (suc z.0) 0 (children recs r)) (sym (written i)) z.2, z.3);
        continues = λ i h e.
            let z = continue_loop cs (children recs r) log (body_of sc (look t) recs r).count xs is_right i h e in
            (z.0, z.1, subst (λ (q : ℕ). Around q (suc z.0) 0 (children recs r)) (sym (written i)) z.2, z.3);
        continues_differ = continues_right cs (children recs r) log (body_of sc (look t) recs r).count xs is_right;
        breaks_differ = breaks_right cs (children recs r) log (body_of sc (look t) recs r).count xs is_right;
      }

  pub stream_sound : Sound t recs (stream_at sc (look t) recs r)
  stream_sound =
      record {
        labels = onto (λ ws n. Labels ws n (body_of sc (look t) recs r).count) (labels_right cs xs (children recs r) log (body_of sc (look t) recs r).count is_right);
        loops = onto (λ ws n. Loops recs (stream_at sc (look t) recs r) ws n) loops_right;
        constants = onto (λ ws n. Constants cs ws n) (constants_right xs);
        operands =
            onto (λ ws n. (i : ℕ) → i < n → WithinFound cs (names t (words recs r).p) (operand_kind (code ws i)) (operand ws i))
            (operands_right (names t (words recs r).p) xs (body_named sc t r (words recs r) (children recs r) 0 []));
      }

-- in tables that keep row 6: record 0 is a Function, and every record has the children of its kind
module _ (sc : StackCode) (t : Semantic) (recs : List ℕ) (rooted : (words recs 0).kind ≡ 30) (shaped : Shaped (root recs)) where
  function_sound : (met f : ℕ) (x : Stream) → Sound t recs x → x.number ≡ f → AllKnown met x.marks → x.labels ≡ labels_counted sc (own_tree (children recs x.at))
      → FunctionSound sc t recs met f x
  function_sound met f x s e k l =
      record {
        counted = l;
        labels = s.labels;
        loops = s.loops;
        constants = s.constants;
        indices =
            record {
              operands =
                  λ i h. let ws = marker_words (consts x.marks) x.marks [] in
                  subst (λ (n : ℕ). WithinFound (consts x.marks) (names t n) (operand_kind (code ws i)) (operand ws i)) e (s.operands i h);
              captures = captures_right t f;
              functions = functions_right met x.marks k;
            };
      }

  pub demand3 : Clean (run sc (look t) recs) → Demand3 sc t recs (side (run sc (look t) recs))
  demand3 c f h =
      let e = side (run sc (look t) recs) in
      let a = run_stream sc (look t) recs (λ x. Sound t recs x) (λ r n. stream_sound sc t recs r) rooted c f h in
      let b = stream_found (λ x. AllKnown e.met x.marks) e.streams f (run_known sc (look t) recs)
      (omega (arith, run_numbered sc (look t) recs f, inside_at 0 e.met f (omega arith) (omega arith))) in
      function_sound e.met f (stream_numbered e.streams f) a.0 a.1 b.0 (met_counted sc (look t) recs rooted shaped c f h)
