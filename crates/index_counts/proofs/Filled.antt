-- Kits entered one after the other, with room for all of them: the table stays sound and holds these kits and what it held.
use mathlib.Core.Path.{◌≡◌, refl, sym, subst, ◌∙◌}
use mathlib.Core.Logic.{◌⊎◌, inl, inr, ⊎_elim, ◌≢◌}
use mathlib.Core.Bool.{Bool, true, false}
use mathlib.Core.List.Memᴰ
use mathlib.Core.List.{List, [], ◌∷◌, Memᴰ}
use Prim.Native.Nat.{ℕ, ◌+◌, ◌≤◌, ◌<◌}
use native.Mathlib.Omega.{arith}
use lib.ListN.{length}
use Rattle.kits.specs.Inner.{GoodRow}
use Rattle.nodes.specs.Nodes.{size}
use Rattle.nodes.specs.Inner.{Sound}
use Rattle.nodes.specs.Held.{Kit, comes_before, put_kit, held, tag_in, tags_of, all_beginnings}
use Rattle.nodes.proofs.Lists.{same_or}
use Rattle.nodes.proofs.Sorted.{Every, Rising, also, ahead, every_mem, no_longer, anyb_eqb}
use Rattle.nodes.proofs.Listing.{Earlier, listing_same, tag_from, tags_mem}
use Rattle.nodes.proofs.Ordered.{put_mem, put_new, put_old}
use Rattle.nodes.proofs.Held.{kit, held_rises}
use Rattle.nodes.proofs.Beginnings.{Begun, beginnings_differ, beginnings_begun, begun_beginnings, nodes_free}
use Rattle.index_insert.specs.Enter.{enter, enter_all}
use Rattle.index.specs.Index.{tag_taken}
use Rattle.index.proofs.Kept.{Accepted, insert_sound, held_after_insert, insert_length}
use Rattle.index_counts.proofs.Needed.{nodes_needed_lem}

-- a kit that may be entered, with so many parts
pub record Fit (parts : ℕ) (k : Kit) : Type 0 where
  pub row : GoodRow parts k.row
  pub some_tag_lem : 0 < k.tag

-- two kits that can be held together
pub record Apart (a b : Kit) : Type 0 where
  pub rows : a.row ≢ b.row
  pub tags : a.tag ≢ b.tag

-- what is known of a table and the kits that are to be entered; all are among the kits T, for whose beginnings there is room
pub record Fillable (parts : ℕ) (T : List Kit) (N : List ℕ) (ks : List Kit) : Type 0 where
  pub sound : Sound parts N
  pub fit : Every (Fit parts) ks
  pub differ : Rising Apart ks
  pub new : (a b : Kit) → Memᴰ a (held N) → Memᴰ b ks → Apart a b
  pub held_in : (k : Kit) → Memᴰ k (held N) → Memᴰ k T
  pub all_in : (k : Kit) → Memᴰ k ks → Memᴰ k T
  pub room : 1 + length (all_beginnings T) ≤ size N

pub record Filled (parts : ℕ) (N : List ℕ) (ks : List Kit) (M : List ℕ) : Type 0 where
  pub sound : Sound parts M
  pub same_length : length M ≡ length N
  pub to : (k : Kit) → Memᴰ k (held M) → Memᴰ k ks ⊎ Memᴰ k (held N)
  pub entered : (k : Kit) → Memᴰ k ks → Memᴰ k (held M)
  pub kept : (k : Kit) → Memᴰ k (held N) → Memᴰ k (held M)

-- more kits have no fewer beginnings
pub more_beginnings : (ks T : List Kit) → ((k : Kit) → Memᴰ k ks → Memᴰ k T) →
    length (all_beginnings ks) ≤ length (all_beginnings T)
more_beginnings ks T f = no_longer (all_beginnings ks) (all_beginnings T) (beginnings_differ ks) (λ a m.
    let b : Begun ks a = beginnings_begun ks a m in
    begun_beginnings T a (record { whole = b.whole; there = f b.whole b.there; part = b.part }))

module _ {parts : ℕ} {T : List Kit} {N : List ℕ} {k : Kit} {ks : List Kit} (F : Fillable parts T N (k ∷ ks)) where
  abbrev r : List ℕ
  r = k.row

  abbrev t : ℕ
  t = k.tag

  first : Memᴰ k (k ∷ ks)
  first = Memᴰ.head refl

  k_fit : Fit parts k
  k_fit = every_mem F.fit first

  pub acceptable : Accepted k.row k.tag N
  acceptable = record {
    fresh = fresh_tag (tag_in r (held N)) refl;
    unborne = unborne_tag (tag_taken N t) refl;
    room =
        omega (
          arith,
          nodes_needed_lem F.sound r t,
          nodes_free F.sound,
          F.room,
          more_beginnings (put_kit (kit r t) (held N)) T
              (λ x m. ⊎_elim (λ (e : x ≡ kit r t). subst (λ (y : Kit). Memᴰ y T) (sym e) (F.all_in k first)) (λ j. F.held_in x j)
              (put_mem comes_before (kit r t) x (held N) m)),
        );
  }
    where
      fresh_tag : (u : ℕ) → tag_in r (held N) ≡ u → u ≡ 0
      fresh_tag u e = ⊎_elim
          (λ (z : u ≡ 0). z)
          (λ (g : u ≢ 0). let o = tag_from r (held N) (λ z. g (sym e ∙ z)) in absurd ((F.new o.0 k o.1 first).rows o.2))
          (same_or u 0)

      unborne_tag : (b : Bool) → tag_taken N t ≡ b → b ≡ false
      unborne_tag false e = refl
      unborne_tag true e =
          let o = tags_mem t (held N) (anyb_eqb t (tags_of (held N)) e) in absurd ((F.new o.0 k o.1 first).tags o.2)

  abbrev M : List ℕ
  M = enter N k.row k.tag

  is_held : held (enter N k.row k.tag) ≡ put_kit (kit k.row k.tag) (held N)
  is_held = held_after_insert F.sound k_fit.row k_fit.some_tag_lem acceptable

  now_held : (x : Kit) → Memᴰ x (held M) → (x ≡ k) ⊎ Memᴰ x (held N)
  now_held x m = put_mem comes_before (kit r t) x (held N) (subst (Memᴰ x) is_held m)

  same_table : length M ≡ length N
  same_table = insert_length F.sound k_fit.row k_fit.some_tag_lem acceptable

  pub fill_next : Fillable parts T (enter N k.row k.tag) ks
  fill_next = record {
    sound = insert_sound F.sound k_fit.row k_fit.some_tag_lem acceptable;
    fit = rest_fit F.fit;
    differ = rest_differ F.differ;
    new = λ a b m n. ⊎_elim
        (λ (e : a ≡ k). subst (λ (x : Kit). Apart x b) (sym e) (first_apart F.differ b n))
        (λ j. F.new a b j (Memᴰ.tail n))
        (now_held a m);
    held_in =
        λ x m. ⊎_elim (λ (e : x ≡ k). subst (λ (y : Kit). Memᴰ y T) (sym e) (F.all_in k first)) (λ j. F.held_in x j) (now_held x m);
    all_in = λ x m. F.all_in x (Memᴰ.tail m);
    room = omega (arith, F.room, same_table);
  }
    where
      rest_fit : Every (Fit parts) (k ∷ ks) → Every (Fit parts) ks
      rest_fit (also p e) = e

      rest_differ : Rising Apart (k ∷ ks) → Rising Apart ks
      rest_differ (ahead e s) = s

      first_apart : Rising Apart (k ∷ ks) → (b : Kit) → Memᴰ b ks → Apart k b
      first_apart (ahead e s) b n = every_mem e n

  pub fill_first : {Z : List ℕ} → Filled parts (enter N k.row k.tag) ks Z → Filled parts N (k ∷ ks) Z
  fill_first {Z} y = record {
    sound = y.sound;
    same_length = y.same_length ∙ same_table;
    to = λ x m. ⊎_elim
        (λ j. inl (Memᴰ.tail j))
        (λ j. ⊎_elim (λ (e : x ≡ k). inl (Memᴰ.head e)) (λ i. inr i) (now_held x j))
        (y.to x m);
    entered = λ x m. ⊎_elim
        (λ (e : x ≡ k). y.kept x
        (subst (Memᴰ x) (sym is_held)
        (subst (λ (z : Kit). Memᴰ z (put_kit (kit r t) (held N))) (sym e) (put_new comes_before (kit r t) (held N)))))
        (λ j. y.entered x j)
        (Memᴰ.cases_cons m);
    kept = λ x m. y.kept x (subst (Memᴰ x) (sym is_held) (put_old comes_before (kit r t) x (held N) m));
  }

fill_none : {parts : ℕ} (N : List ℕ) → Sound parts N → Filled parts N [] (enter_all N [])
unfolding enter_all
fill_none N So =
    record { sound = So; same_length = refl; to = λ k m. inr m; entered = λ k m. absurd (Memᴰ.not-nil m); kept = λ k m. m }

fill_more : {parts : ℕ} (N : List ℕ) (k : Kit) (ks : List Kit) → Filled parts N (k ∷ ks) (enter_all (enter N k.row k.tag) ks) →
    Filled parts N (k ∷ ks) (enter_all N (k ∷ ks))
unfolding enter_all
fill_more N k ks y = y

-- The law of entering kits one after the other
pub filled : {parts : ℕ} {T : List Kit} (ks : List Kit) (N : List ℕ) → Fillable parts T N ks → Filled parts N ks (enter_all N ks)
filled [] N F = fill_none N F.sound
filled (k ∷ ks) N F = fill_more N k ks (fill_first F (filled ks (enter N k.row k.tag) (fill_next F)))

-- Into a table that holds nothing, kits in listing order: these are held, in this order.
pub filled_held : {parts : ℕ} {N : List ℕ} (ks : List Kit) → Fillable parts ks N ks → held N ≡ [] → Rising Earlier ks →
    held (enter_all N ks) ≡ ks
filled_held {N = N} ks F e s =
    let y = filled ks N F in
    listing_same (held_rises y.sound.shape) s
    (λ k m. ⊎_elim (λ j. j) (λ j. absurd (Memᴰ.not-nil (subst (Memᴰ k) e j))) (y.to k m))
    (λ k m. y.entered k m)
