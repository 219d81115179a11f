-- Laws of the head of a card: mark, version, tag and line count, each whole and then right; the first that is not is the first fault.
use mathlib.Core.Path.{◌≡◌, refl, ap, sym, ◌∙◌}
use mathlib.Core.Bool.{Bool, true, false, ◌&&◌}
use mathlib.Core.List.{List, [], ◌∷◌}
use lib.Pointwise.{pointwise}
use Rattle.std.specs.Prelude.{nat_eq}
use Prim.Native.Nat.{ℕ, ◌≤◌, ◌<◌}
use native.Mathlib.Omega.{arith}
use lib.ListN.{length, take, drop, get_or}
use borrow.Author.Tests.{eq-eqb, ne_eqb}
use Rattle.ground.specs.Limits.{byte_limit}
use Rattle.ground.specs.Lists.{eq_list}
use Rattle.sheet.specs.Bytes.{from_bytes, two_bytes}
use Rattle.sheet.specs.Sheet.{mark_bytes}
use Rattle.sheet.specs.Inner.{version_at}
use Rattle.sheet.specs.Reading.{item, fault, onward, one, bytes}
use Rattle.sheet.proofs.Items.{bytes_short, bytes_bad, bytes_ok}
use Rattle.sheet.proofs.Places.{one_value}
use Rattle.card.specs.Card.{card_mark, card_version}
use Rattle.card.specs.Inner.{card_tag_at, card_count_at, card_head}
use Rattle.card.specs.Reading.{is_card_version, tag_given, count_bytes, any_count, decode_card}
use Rattle.card.specs.declared.Card.{Card}
use Rattle.card_judge.specs.Inner.{CardHeaded}

any_good : (b : List ℕ) → any_count b ≡ true
unfolding any_count
any_good b = refl

-- two stretches of bytes, as the code compares them
pub same_bytes : (a b : List ℕ) → pointwise nat_eq a b ≡ eq_list a b
unfolding eq_list
same_bytes [] [] = refl
same_bytes [] (y ∷ b) = refl
same_bytes (x ∷ a) [] = refl
same_bytes (x ∷ a) (y ∷ b) = ap (λ (t : Bool). nat_eq x y && t) (same_bytes a b)

-- the mark is read, and is a card's
pub record Marked (s : List ℕ) : Type 0 where
  pub long : mark_bytes ≤ length s
  pub is : eq_list card_mark (take mark_bytes s) ≡ true

module _ (s : List ℕ) where
  mark_fault : one (bytes mark_bytes) (eq_list card_mark) s 0 ≡ fault 0 → decode_card s ≡ fault 0
  unfolding decode_card onward
  mark_fault e = rw e

  pub bad_mark : eq_list card_mark (take mark_bytes s) ≡ false → decode_card s ≡ fault 0
  bad_mark f = mark_fault (bytes_bad mark_bytes (eq_list card_mark) s 0 f)

  module _ (M : Marked s) where
    mark_item : one (bytes mark_bytes) (eq_list card_mark) s 0 ≡ item (take mark_bytes s) (drop version_at s) version_at
    mark_item = bytes_ok mark_bytes (eq_list card_mark) s 0 M.long M.is

    version_fault : one (bytes two_bytes) is_card_version (drop version_at s) version_at ≡ fault version_at → decode_card s ≡ fault version_at
    unfolding decode_card onward
    version_fault e = let f = mark_item in rw (f, e)

    pub no_version : length s < card_tag_at → decode_card s ≡ fault version_at
    no_version k = version_fault (bytes_short two_bytes is_card_version s version_at M.long (omega arith))

    -- the version v, as it was read
    module _ (v : ℕ) (read : v ≡ from_bytes (take two_bytes (drop version_at s))) where
      pub bad_version : (v ≡ card_version → ⊥) → decode_card s ≡ fault version_at
      unfolding is_card_version
      bad_version f = version_fault (bytes_bad two_bytes is_card_version s version_at (ne_eqb _ _ (λ e. f (read ∙ e))))

      module _ (k : card_tag_at ≤ length s) (g : v ≡ card_version) where
        version_item : one (bytes two_bytes) is_card_version (drop version_at s) version_at
            ≡ item (take two_bytes (drop version_at s)) (drop card_tag_at s) card_tag_at
        unfolding is_card_version
        version_item = bytes_ok two_bytes is_card_version s version_at k (eq-eqb _ _ (sym read ∙ g))

        tag_fault : one (bytes two_bytes) tag_given (drop card_tag_at s) card_tag_at ≡ fault card_tag_at → decode_card s ≡ fault card_tag_at
        unfolding decode_card onward
        tag_fault e =
            let f = mark_item in
            let i = version_item in
            rw (f, i, e)

        pub no_tag : length s < card_count_at → decode_card s ≡ fault card_tag_at
        no_tag l = tag_fault (bytes_short two_bytes tag_given s card_tag_at k (omega arith))

        -- the tag t, as it was read
        module _ (t : ℕ) (tag : t ≡ from_bytes (take two_bytes (drop card_tag_at s))) where
          pub bad_tag : t ≡ 0 → decode_card s ≡ fault card_tag_at
          unfolding tag_given
          bad_tag z = tag_fault (bytes_bad two_bytes tag_given s card_tag_at (rw (← tag, eq-eqb t 0 z)))

          module _ (l : card_count_at ≤ length s) (some : (t ≡ 0 → ⊥)) where
            tag_item : one (bytes two_bytes) tag_given (drop card_tag_at s) card_tag_at
                ≡ item (take two_bytes (drop card_tag_at s)) (drop card_count_at s) card_count_at
            unfolding tag_given
            tag_item = bytes_ok two_bytes tag_given s card_tag_at l (rw (← tag, ne_eqb t 0 some))

            pub no_count : length s < card_head → decode_card s ≡ fault card_count_at
            unfolding decode_card onward
            no_count w =
                let f = mark_item in
                let i = version_item in
                let j = tag_item in
                let e = bytes_short count_bytes any_count s card_count_at l (omega arith) in
                rw (f, i, j, e)

            -- and the line count: what follows is the lines and the end
            pub headed : card_head ≤ length s → (c : Card) → c.tag ≡ t → c.lines ≡ get_or s card_count_at 0 → c.lines < byte_limit → CardHeaded s c
            unfolding decode_card onward
            headed w c p q few =
                let f = mark_item in
                let i = version_item in
                let j = tag_item in
                let e = bytes_ok count_bytes any_count s card_count_at w (any_good (take count_bytes (drop card_count_at s))) in
                let n : from_bytes (take count_bytes (drop card_count_at s)) ≡ c.lines = one_value s card_count_at (omega arith) ∙ sym q in
                let u : from_bytes (take two_bytes (drop card_tag_at s)) ≡ c.tag = sym tag ∙ sym p in
                record { inside = w; few = few; goes = rw (f, i, j, e, n, u) }
