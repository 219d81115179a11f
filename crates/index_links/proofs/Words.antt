-- The words of a table after all words of a node were written anew, and one link.
use mathlib.Core.Path.{◌≡◌, refl, sym, ap, ◌∙◌}
use mathlib.Core.Logic.{◌⊎◌, inl, inr, ⊎_elim, ◌≢◌}
use mathlib.Core.List.{List, [], ◌∷◌, ◌++◌}
use Prim.Native.Nat.{ℕ, ◌+◌, ◌-◌, ◌*◌, ◌≤◌, ◌<◌}
use native.Mathlib.Omega.{arith}
use lib.ListN.{length, get_or, set, take, drop, replicate, length-set, length-replicate, get_or-replicate, get_or-append}
use lib.Seq.{drop-drop, get_or-append-add, get_or-take, get_or-drop, get_or-set_same, get_or-set_other, length-take-le}
use borrow.Rule.Slice.PartMut.{put_mid}
use Rattle.ground.specs.Laid.{laid}
use Rattle.ground.proofs.Laid.{laid_is, laid_one, laid_set, length_laid}
use Rattle.ground.proofs.Laws.{le_or}
use Rattle.nodes.specs.Nodes.{words_per_node, parent_word, at, word, parent, next, label, depth, size}
use Rattle.index_links.specs.Links.{link_to, link, unlink}

-- the words of node f written over at once
pub words_laid : (N : List ℕ) (f : ℕ) (bs : List ℕ) → length bs ≡ words_per_node → f < size N →
    put_mid (f * words_per_node) (f * words_per_node + words_per_node - f * words_per_node) N bs ≡ laid N (at f parent_word) bs
words_laid N f bs n h =
    let k : f * words_per_node + words_per_node - f * words_per_node ≡ length bs = omega arith in
    let a : at f parent_word ≡ f * words_per_node = omega arith in
    rw (k, a, laid_is N (f * words_per_node) bs (omega arith), drop-drop)

-- the same, word after word
next_laid : (N : List ℕ) (a : ℕ) (bs : List ℕ) (k b : ℕ) → k ≡ a + length bs → set (laid N a bs) k b ≡ laid N a (bs ++ (b ∷ []))
next_laid N a bs k b e = rw e (laid_set N a bs b)

pub node_laid : (N : List ℕ) (f u v w x y z k : ℕ) {A B C D E F G : List ℕ} → A ≡ set N (at f 0) u → B ≡ set A (at f 1) v →
    C ≡ set B (at f 2) w → D ≡ set C (at f 3) x → E ≡ set D (at f 4) y → F ≡ set E (at f 5) z → G ≡ set F (at f 6) k →
    G ≡ laid N (at f parent_word) (u ∷ v ∷ w ∷ x ∷ y ∷ z ∷ k ∷ [])
node_laid N f u v w x y z k hA hB hC hD hE hF hG =
    rw (
      hG,
      hF,
      hE,
      hD,
      hC,
      hB,
      hA,
      laid_one N (at f 0) u,
      next_laid N (at f 0) (u ∷ []) (at f 1) v (omega arith),
      next_laid N (at f 0) (u ∷ v ∷ []) (at f 2) w (omega arith),
      next_laid N (at f 0) (u ∷ v ∷ w ∷ []) (at f 3) x (omega arith),
      next_laid N (at f 0) (u ∷ v ∷ w ∷ x ∷ []) (at f 4) y (omega arith),
      next_laid N (at f 0) (u ∷ v ∷ w ∷ x ∷ y ∷ []) (at f 5) z (omega arith),
      next_laid N (at f 0) (u ∷ v ∷ w ∷ x ∷ y ∷ z ∷ []) (at f 6) k (omega arith),
    )

-- a list with something laid over it, element by element
past : (xs ys : List ℕ) (j : ℕ) → length xs ≤ j → get_or (xs ++ ys) j 0 ≡ get_or ys (j - length xs) 0
past xs ys j h =
    let e : length xs + (j - length xs) ≡ j = omega arith in
    ap (λ (k : ℕ). get_or (xs ++ ys) k 0) (sym e) ∙ get_or-append-add xs ys (j - length xs) 0

module _ (l : List ℕ) (a : ℕ) (bs : List ℕ) (h : a + length bs ≤ length l) where
  front : length (take a l) ≡ a
  front = length-take-le a l (omega arith)

  pub laid_on : (k : ℕ) → k < length bs → get_or (laid l a bs) (a + k) 0 ≡ get_or bs k 0
  laid_on k g =
      let e : a + k - length (take a l) ≡ k = omega (arith, front) in
      rw (laid_is l a bs h) (past (take a l) (bs ++ drop (a + length bs) l) (a + k) (omega (arith, front)) ∙ ap
      (λ (m : ℕ). get_or (bs ++ drop (a + length bs) l) m 0) e ∙ get_or-append bs (drop (a + length bs) l) 0 k g)

  pub laid_off : (j : ℕ) → (j < a) ⊎ (a + length bs ≤ j) → get_or (laid l a bs) j 0 ≡ get_or l j 0
  laid_off j = rw (laid_is l a bs h) (⊎_elim
      (λ (g : j < a). get_or-append (take a l) (bs ++ drop (a + length bs) l) 0 j (omega (arith, front)) ∙ get_or-take a l j 0 g)
      (λ (g : a + length bs ≤ j).
      let e : a + length bs + (j - length (take a l) - length bs) ≡ j = omega (arith, front) in
      past (take a l) (bs ++ drop (a + length bs) l) j (omega (arith, front)) ∙ past bs (drop (a + length bs) l) (j - length (take a l))
      (omega (arith, front)) ∙ get_or-drop (a + length bs) l (j - length (take a l) - length bs) 0 ∙ ap (λ (m : ℕ). get_or l m 0) e))

-- the words of node f laid anew
module _ (N : List ℕ) (f : ℕ) (bs : List ℕ) (All-words : length bs ≡ words_per_node) (inside : f < size N) where
  room : at f parent_word + length bs ≤ length N
  room = omega arith

  pub laid_length : length (laid N (at f parent_word) bs) ≡ length N
  laid_length = length_laid N (at f parent_word) bs

  pub laid_same : (k : ℕ) → k < words_per_node → word (laid N (at f parent_word) bs) f k ≡ get_or bs k 0
  laid_same k h = let e : at f k ≡ at f parent_word + k = omega arith in
      ap (λ (j : ℕ). get_or (laid N (at f parent_word) bs) j 0) e ∙ laid_on N (at f parent_word) bs room k (omega arith)

  pub laid_other : (i k : ℕ) → k < words_per_node → i ≢ f → word (laid N (at f parent_word) bs) i k ≡ word N i k
  laid_other i k h n = laid_off N (at f parent_word) bs room (at i k) (⊎_elim
      (λ (g : i ≤ f). inl (omega arith))
      (λ (g : f < i). inr (omega arith))
      (le_or i f))

-- a node linked in: its words, the link to it, and all others
module _ (N : List ℕ) (p l f q m : ℕ) (inside : f < size N) (w : link_to N p l ≡ at q m) (small : m < words_per_node) (ne : q ≢ f)
    (home : q < size N) where
  abbrev bs : List ℕ
  bs = p ∷ 0 ∷ get_or N (link_to N p l) 0 ∷ l ∷ (depth N p + 1) ∷ 0 ∷ 0 ∷ []

  L : List ℕ
  L = laid N (at f parent_word) bs

  pub link_length : length (link N p l f) ≡ length N
  unfolding link
  link_length = length-set (laid N (at f parent_word) bs) (link_to N p l) f ∙ laid_length N f bs refl inside

  pub link_mine : (k : ℕ) → k < words_per_node → word (link N p l f) f k ≡ get_or bs k 0
  unfolding link
  link_mine k h =
      get_or-set_other (laid N (at f parent_word) bs) (link_to N p l) (at f k) f 0 (λ e. omega (arith, w)) ∙ laid_same N f bs refl inside k h

  pub link_other : (i k : ℕ) → k < words_per_node → i ≢ f → at i k ≢ at q m → word (link N p l f) i k ≡ word N i k
  unfolding link
  link_other i k h n o =
      get_or-set_other (laid N (at f parent_word) bs) (link_to N p l) (at i k) f 0 (λ e. o (e ∙ w)) ∙ laid_other N f bs refl inside i k h n

  pub link_here : word (link N p l f) q m ≡ f
  unfolding link
  link_here =
      ap (λ (j : ℕ). get_or (set (laid N (at f parent_word) bs) (link_to N p l) f) j 0) (sym w) ∙ get_or-set_same (laid N (at f parent_word) bs)
      (link_to N p l) f 0 (omega (arith, w, laid_length N f bs refl inside))

-- a node unlinked: its words, the link to it, and all others
module _ (M : List ℕ) (f q m : ℕ) (inside : f < size M) (w : link_to M (parent M f) (label M f) ≡ at q m) (small : m < words_per_node)
    (ne : q ≢ f) (home : q < size M) where
  abbrev K : List ℕ
  K = set M (link_to M (parent M f) (label M f)) (next M f)

  abbrev no : List ℕ
  no = replicate words_per_node 0

  still : f < size K
  still = omega (arith, length-set M (link_to M (parent M f) (label M f)) (next M f))

  pub unlink_length : length (unlink M f) ≡ length M
  unfolding unlink
  unlink_length =
      laid_length K f no (length-replicate {A = ℕ} words_per_node 0) still ∙ length-set M (link_to M (parent M f) (label M f)) (next M f)

  pub unlink_mine : (k : ℕ) → k < words_per_node → word (unlink M f) f k ≡ 0
  unfolding unlink
  unlink_mine k h = laid_same K f no (length-replicate {A = ℕ} words_per_node 0) still k h ∙ get_or-replicate words_per_node k 0 0 h

  pub unlink_other : (i k : ℕ) → k < words_per_node → i ≢ f → at i k ≢ at q m → word (unlink M f) i k ≡ word M i k
  unfolding unlink
  unlink_other i k h n o =
      laid_other K f no (length-replicate {A = ℕ} words_per_node 0) still i k h n ∙ get_or-set_other M (link_to M (parent M f) (label M f))
      (at i k) (next M f) 0 (λ e. o (e ∙ w))

  pub unlink_here : word (unlink M f) q m ≡ next M f
  unfolding unlink
  unlink_here =
      laid_other K f no (length-replicate {A = ℕ} words_per_node 0) still q m small ne ∙ ap (λ (j : ℕ). get_or K j 0) (sym w) ∙ get_or-set_same M
      (link_to M (parent M f) (label M f)) (next M f) 0 (omega (arith, w))

-- what the functions leave
pub link_words : (N : List ℕ) (p l f w d : ℕ) (L : List ℕ) → w ≡ link_to N p l → d ≡ depth N p →
    L ≡ laid N (at f parent_word) (p ∷ 0 ∷ get_or N w 0 ∷ l ∷ (d + 1) ∷ 0 ∷ 0 ∷ []) → set L w f ≡ link N p l f
unfolding link
link_words N p l f w d L hw hd hL = rw (hL, hd, hw)

pub unlink_words : (N : List ℕ) (i w b : ℕ) (L : List ℕ) → w ≡ link_to N (parent N i) (label N i) → b ≡ next N i →
    L ≡ laid (set N w b) (at i parent_word) (0 ∷ 0 ∷ 0 ∷ 0 ∷ 0 ∷ 0 ∷ 0 ∷ []) → L ≡ unlink N i
unfolding unlink
unlink_words N i w b L hw hb hL = rw (hL, hb, hw)
