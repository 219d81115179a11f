-- A piece of the input cut into lines, and what is kept of the line that it does not end.
use mathlib.Core.Path.{◌≡◌, refl, ap, sym, ◌∙◌}
use mathlib.Core.Logic.{◌⊎◌, inl, inr}
use mathlib.Core.List.{List, [], ◌∷◌, ◌++◌, append-nil}
use Prim.Native.Nat.{ℕ, suc, ◌+◌, ◌-◌, ◌≤◌, ◌<◌}
use native.Mathlib.Omega.{arith}
use lib.ListN.{length, take, drop, length-take, length-drop, drop_of_length-le}
use lib.Seq.{take_all, length-take-le, drop-drop, take-append-add}
use Rattle.ground.specs.Laid.{laid, Put}
use Rattle.ground.proofs.Laws.{below_or}
use Rattle.ground.proofs.Laid.{take_laid}
use Rattle.ground.proofs.Put.{put_length}
use Rattle.ground.specs.Tables.{Tables}
use Rattle.desk_text.specs.Parted.{parted}
use Rattle.desk_text.specs.Inner.{up_to, EndOf}
use Rattle.desk_text.specs.Lines.{line_feed, longest_line}
use Rattle.desk_input.specs.Inner.{part_kept, most_kept, kept_of}
use Rattle.desk_input.specs.Lines.{all_but_last, last_of, ended, unfinished, last_line, lines_of, answered}
use Rattle.desk_input.proofs.Cutting.{Clean, clean_none, clean_append, first_line, behind_first, goes_on_ended, goes_on_unfinished}
use Rattle.desk_input.proofs.Cutting.{ends_ended, ends_unfinished, kept_clean, unfinished_clean, ended_on, unfinished_on, answered_append}
use Rattle.desk_input.proofs.Cutting.{piece_answers, piece_keeps, last_answers}
use Rattle.desk_lines.specs.Sizes.{output_places, sheet_bytes, begun_desk}
use Rattle.desk_lines.specs.Desk.{left_by}
use Rattle.desk_lines.specs.Inner.{Room}
use Rattle.desk_lines.proofs.Left.{overlong_leaves}
use Rattle.desk.specs.Inner.{reply_bytes, AtHand, Keeps, Takes}
use Rattle.desk.specs.Desk.{Serves}

-- of an overlong line what is kept is overlong too
pub left_by_kept : (l : List ℕ) (T : Tables) → left_by (kept_of l) T ≡ left_by l T
unfolding kept_of
left_by_kept l T = go (below_or longest_line (length l))
  where
    go : (longest_line < length l) ⊎ (length l ≤ longest_line) → left_by (take most_kept l) T ≡ left_by l T
    go (inl h) =
        let e : length (take most_kept l) ≡ most_kept = length-take-le most_kept l (omega arith) in
        overlong_leaves (take most_kept l) T (omega arith) ∙ sym (overlong_leaves l T h)
    go (inr h) = ap (λ k. left_by k T) (take_all most_kept l (omega arith))

-- outputs keep their lengths, and so their room
pub room_kept : (p s o p' s' o' : List ℕ) → Room p s o → length p' ≡ length p → length s' ≡ length s → length o' ≡ length o → Room p' s' o'
room_kept p s o p' s' o' r e f g = record { listing = omega (arith, r.listing); written = omega (arith, r.written) }

-- what is kept after more of a line came
module _ (old : List ℕ) (n : ℕ) (bs : List ℕ) (r : ℕ) (new : List ℕ) (K : Keeps old n) (k : Put old n (part_kept old n bs) r new) where
  fits : n + length (take (length old - n) bs) ≤ length old
  fits = let i = K.inside in simp length-take (omega arith)

  pub kept_size : length new ≡ most_kept
  kept_size = put_length k ∙ K.size

  pub kept_inside : r ≤ length new
  kept_inside = let s = kept_size in let t = K.size in let f = fits in omega (arith, k.behind)

  pub kept_holds : take r new ≡ kept_of (take n old ++ bs)
  unfolding kept_of
  kept_holds =
      let i : length (take n old) ≡ n = length-take-le n old K.inside in
      let a : take r new ≡ take n old ++ take (length old - n) bs = ap (take r) k.lies ∙ ap
      (λ m. take m (laid old n (take (length old - n) bs))) k.behind ∙ take_laid old n (take (length old - n) bs) fits in
      let b : length (take n old) + (length old - n) ≡ most_kept = omega (arith, K.size, K.inside) in
      a ∙ sym (take-append-add (take n old) bs (length old - n)) ∙ ap (λ m. take m (take n old ++ bs)) b

-- a piece of the input under way, behind the line k that had not ended when it came
pub record Underway (k p : List ℕ) (T : Tables) (kept places sheet out : List ℕ) (n at : ℕ) (U : Tables) : Type 0 where
  pub keeps : Keeps kept n
  pub hand : AtHand U places sheet out
  pub within : at ≤ length p
  pub left : kept_of (unfinished (take n kept ++ drop at p)) ≡ kept_of (unfinished (k ++ p))
  pub lines : answered left_by (ended (take n kept ++ drop at p)) U ≡ answered left_by (ended (k ++ p)) T

pub starts : (p : List ℕ) (T : Tables) (kept places sheet out : List ℕ) (n : ℕ) → Keeps kept n → AtHand T places sheet out →
    Underway (take n kept) p T kept places sheet out n 0 T
starts p T kept places sheet out n K H = record { keeps = K; hand = H; within = omega arith; left = refl; lines = refl }

module _ {k p : List ℕ} {T : Tables} {kept places sheet out : List ℕ} {n at : ℕ} {U : Tables}
    (W : Underway k p T kept places sheet out n at U) where
  -- nothing is left of the piece
  pub piece_done : length p ≤ at → Takes k p T n kept U
  unfolding answered kept_of
  piece_done h =
      let K = take n kept in
      let C : Clean line_feed K = W.keeps.unended in
      let d : drop at p ≡ [] = drop_of_length-le p h in
      let m : length K ≤ most_kept = omega (arith, length-take-le n kept W.keeps.inside, W.keeps.size, W.keeps.inside) in
      let u : unfinished (K ++ drop at p) ≡ K = ap (λ r. unfinished (K ++ r)) d ∙ goes_on_unfinished K [] C clean_none ∙ append-nil K in
      let e : ended (K ++ drop at p) ≡ [] = ap (λ r. ended (K ++ r)) d ∙ goes_on_ended K [] C clean_none in
      record {
        keeps = W.keeps;
        left = sym (take_all most_kept K m) ∙ ap kept_of (sym u) ∙ W.left;
        tables = ap (λ ls. answered left_by ls U)
            (sym e) ∙ W.lines;
      }

  -- the rest of the piece, up to where its first line ends
  module _ (end r : ℕ) (new : List ℕ) (e : EndOf p at line_feed end) (N : Put kept n (part_kept kept n (take (end - at) (drop at p))) r new) where
    size_rest : length (drop at p) ≡ length p - at
    size_rest = length-drop at p

    up_to_lem : up_to line_feed (drop at p) ≡ end - at
    up_to_lem = omega (arith, e.ends)

    -- it ends no line
    pub line_goes_on : end ≡ length p → Takes k p T r new U
    unfolding answered
    line_goes_on h =
        let K = take n kept in
        let b = take (end - at) (drop at p) in
        let C : Clean line_feed K = W.keeps.unended in
        let D : Clean line_feed (drop at p) = omega (arith, up_to_lem, size_rest) in
        let a : b ≡ drop at p = take_all (end - at) (drop at p) (omega (arith, size_rest)) in
        let t : take r new ≡ kept_of (K ++ drop at p) = kept_holds kept n b r new W.keeps N ∙ ap (λ x. kept_of (K ++ x)) a in
        let c : Clean line_feed (kept_of (K ++ drop at p)) = kept_clean (K ++ drop at p) (clean_append line_feed K (drop at p) C D) in
        record {
          keeps =
              record { size = kept_size kept n b r new W.keeps N; inside = kept_inside kept n b r new W.keeps N; unended = rw t c };
          left = t ∙ ap kept_of (sym (goes_on_unfinished K (drop at p) C D)) ∙ W.left;
          tables = ap (λ ls. answered left_by ls U) (sym (goes_on_ended K (drop at p) C D)) ∙ W.lines;
        }

    -- it ends a line, which is answered
    pub line_ends : (places' sheet' out' : List ℕ) (Z : Tables) → end < length p → AtHand Z places' sheet' out' →
        Z ≡ left_by (take r new) U → Underway k p T new places' sheet' out' 0 (end + 1) Z
    unfolding answered
    line_ends places' sheet' out' Z h H v =
        let K = take n kept in
        let b = take (end - at) (drop at p) in
        let C : Clean line_feed K = W.keeps.unended in
        let s : up_to line_feed (drop at p) < length (drop at p) = omega (arith, up_to_lem, size_rest, e.low) in
        let q : behind_first (drop at p) ≡ drop (end + 1) p = drop-drop (suc (up_to line_feed (drop at p))) at p ∙ ap (λ m. drop m p)
        (let z : at + suc (up_to line_feed (drop at p)) ≡ end + 1 = omega (arith, up_to_lem, e.low) in z) in
        let f : first_line K (drop at p) ≡ K ++ b = ap (λ m. K ++ take m (drop at p)) up_to_lem in
        let w : Z ≡ left_by (first_line K (drop at p)) U =
        v ∙ ap (λ l. left_by l U) (kept_holds kept n b r new W.keeps N) ∙ left_by_kept (K ++ b) U ∙ ap (λ l. left_by l U) (sym f) in
        record {
          keeps = record { size = kept_size kept n b r new W.keeps N; inside = omega arith; unended = clean_none };
          hand = H;
          within = omega arith;
          left = ap (λ x. kept_of (unfinished x)) (sym q) ∙ ap kept_of (sym (ends_unfinished K (drop at p) C s)) ∙ W.left;
          lines =
              ap (λ x. answered left_by (ended x) Z) (sym q) ∙ ap (answered left_by (ended (behind_first (drop at p)))) w ∙ ap
              (λ ls. answered left_by ls U) (sym (ends_ended K (drop at p) C s)) ∙ W.lines;
        }

-- some input was read: the lines that have ended are answered, and n bytes are kept of the one that has not
pub record Read (kept : List ℕ) (n : ℕ) (U : Tables) : Type 0 where
  pub input : List ℕ
  pub left : take n kept ≡ kept_of (unfinished input)
  pub tables : U ≡ answered left_by (ended input) begun_desk

pub none_read : (T : Tables) (kept : List ℕ) → T ≡ begun_desk → Read kept 0 T
unfolding answered ended unfinished parted all_but_last last_of kept_of
none_read T kept e = record { input = []; left = refl; tables = e }

module _ {kept : List ℕ} {n : ℕ} {U : Tables} (R : Read kept n U) where
  s : List ℕ
  s = R.input

  u : List ℕ
  u = unfinished s

  pub more_read : (p : List ℕ) (r : ℕ) (new : List ℕ) (Z : Tables) → Takes (take n kept) p U r new Z → Read new r Z
  unfolding s u
  more_read p r new Z t =
      let c = unfinished_clean s in
      record {
        input = s ++ p;
        left =
            t.left ∙ ap (λ k. kept_of (unfinished (k ++ p))) R.left ∙ piece_keeps left_by left_by_kept u p c U ∙ ap kept_of
            (sym (unfinished_on s p));
        tables =
            t.tables
            ∙ ap (λ k. answered left_by (ended (k ++ p)) U) R.left
            ∙ piece_answers left_by left_by_kept u p c U
            ∙ ap (answered left_by (ended (u ++ p))) R.tables
            ∙ sym (answered_append left_by (ended s) (ended (u ++ p)) begun_desk)
            ∙ ap (λ ls. answered left_by ls begun_desk) (sym (ended_on s p));
      }

  last_read : (Z : Tables) → Z ≡ answered left_by (last_line (take n kept)) U → Serves Z
  unfolding s u lines_of
  last_read Z e =
      record {
        input = s;
        tables =
            e
            ∙ ap (λ k. answered left_by (last_line k) U) R.left
            ∙ last_answers left_by left_by_kept u U
            ∙ ap (answered left_by (last_line u)) R.tables
            ∙ sym (answered_append left_by (ended s) (last_line u) begun_desk);
      }

  -- the input ends with a line feed, or with a line that lacks it
  pub nothing_left : n ≡ 0 → Serves U
  unfolding answered last_line
  nothing_left e = last_read U (ap (λ m. answered left_by (last_line (take m kept)) U) (sym e))

  pub line_left : (Z : Tables) → (n ≡ 0 → ⊥) → n ≤ length kept → Z ≡ left_by (take n kept) U → Serves Z
  unfolding answered last_line
  line_left Z h i e = last_read Z (go (take n kept) (length-take-le n kept i) e)
    where
      go : (k : List ℕ) → length k ≡ n → Z ≡ left_by k U → Z ≡ answered left_by (last_line k) U
      go [] f g = absurd (h (sym f))
      go (x ∷ k) f g = g

-- how the desk starts: nothing is kept, and there is room
pub keeps_none : (kept : List ℕ) → most_kept ≡ length kept → Keeps kept 0
keeps_none kept e = record { size = sym e; inside = omega arith; unended = clean_none }

pub room_enough : (p s o : List ℕ) → output_places ≡ length p → sheet_bytes ≡ length s → reply_bytes ≡ length o → Room p s o
room_enough p s o e f g = record { listing = omega arith; written = omega arith }
