-- The byte of the marks of a card that is shown.
use Rattle.std.proofs.Common.{◌≡◌, ℕ, zero, suc, ◌+◌, ◌*◌, ◌/◌, ◌%◌, ◌^◌, ◌<◌, ◌≤◌, ◌==◌, ◌&&◌, ◌||◌, not, nat_lt, Bool, true, false, cond, List, [], ◌∷◌, refl, sym, ap, ◌∙◌, true≢false, arith}
use Rattle.std.specs.Prelude.{All, filter}
use Rattle.std.specs.List.{list_any, AllByRecursion, range_with_len}
use Rattle.std.proofs.lemmas.Bool.Decides.{Decides-ltb}
use Rattle.std.proofs.lemmas.List.Elements.{All-filter, All-weaker, filter_passes}
use Rattle.rc_base.specs.Numbers.{below}
use Rattle.rc_play_spec.specs.Shape.{Shape}
use Rattle.rc_play_spec.specs.Sees.{sees}
use Rattle.rc_play_spec.specs.Effects.{joined}
use Rattle.rc_play_spec.proofs.Ids.{below_within}
use Rattle.rc_play_spec.proofs.ShownLemmas.{is-in}
use Rattle.rc_table.specs.Marks.{has_bit, seats_in}

same_kept : (p q : ℕ → Bool) (xs : List ℕ) → AllByRecursion (λ k. p k ≡ q k) xs → filter p xs ≡ filter q xs
same_kept p q [] all = refl
same_kept p q (x ∷ xs) all = ap (λ b. cond b (x ∷ filter p xs) (filter p xs)) all.0 ∙ ap (λ ys. cond (q x) (x ∷ ys) ys) (same_kept p q xs all.1)

-- those below another number
below_more : (a b : ℕ) (c : Bool) → nat_lt a b ≡ c → b ≤ a → c ≡ false
below_more a b true e le = let less = (Decides-ltb a b).0 e in absurd (omega (arith, less, le))
below_more a b false e le = refl

module _ (test : ℕ → Bool) (players : ℕ) where
  abbrev within : ℕ → Bool
  within k = nat_lt k players && test k

  none_more : (a n : ℕ) → players ≤ a → filter within (range_with_len a n) ≡ []
  none_more a zero le = refl
  none_more a (suc n) le =
      ap (λ b. cond (b && test a) (a ∷ filter within (range_with_len (a + 1) n)) (filter within (range_with_len (a + 1) n)))
      (below_more a players (nat_lt a players) refl le)
      ∙ none_more (a + 1) n (omega (arith, le))

  part_within : (a n m : ℕ) → players ≡ a + m → m ≤ n → filter within (range_with_len a n) ≡ filter test (range_with_len a m)
  part_within a n zero is le = none_more a n (omega (arith, is))
  part_within a zero (suc m) is le = absurd (omega (arith, le))
  part_within a (suc n) (suc m) is le =
      ap (λ b. cond (b && test a) (a ∷ filter within (range_with_len (a + 1) n)) (filter within (range_with_len (a + 1) n)))
      ((Decides-ltb a players).1 (omega (arith, is)))
      ∙ ap (λ ys. cond (test a) (a ∷ ys) ys) (part_within (a + 1) n m (omega (arith, is)) (omega (arith, le)))

bit_is : (n : ℕ) (t : Bool) → n ≡ cond t 1 0 → (n == 1) ≡ t
bit_is n true is = ap (λ k. k == 1) is
bit_is n false is = ap (λ k. k == 1) is

-- a byte that is the sum of its bits
module _ (a b c d e f g h : ℕ) (a1 : a ≤ 1) (b1 : b ≤ 1) (c1 : c ≤ 1) (d1 : d ≤ 1) (e1 : e ≤ 1) (f1 : f ≤ 1) (g1 : g ≤ 1) (h1 : h ≤ 1) where
  abbrev byte : ℕ
  byte = a + 2 * b + 4 * c + 8 * d + 16 * e + 32 * f + 64 * g + 128 * h

  bit0 : byte / 2 ^ 0 % 2 ≡ a
  bit0 = omega (arith, a1)

  bit1 : byte / 2 ^ 1 % 2 ≡ b
  bit1 = omega (arith, a1, b1)

  bit2 : byte / 2 ^ 2 % 2 ≡ c
  bit2 = omega (arith, a1, b1, c1)

  bit3 : byte / 2 ^ 3 % 2 ≡ d
  bit3 = omega (arith, a1, b1, c1, d1)

  bit4 : byte / 2 ^ 4 % 2 ≡ e
  bit4 = omega (arith, a1, b1, c1, d1, e1)

  bit5 : byte / 2 ^ 5 % 2 ≡ f
  bit5 = omega (arith, a1, b1, c1, d1, e1, f1)

  bit6 : byte / 2 ^ 6 % 2 ≡ g
  bit6 = omega (arith, a1, b1, c1, d1, e1, f1, g1)

  bit7 : byte / 2 ^ 7 % 2 ≡ h
  bit7 = omega (arith, a1, b1, c1, d1, e1, f1, g1, h1)

  pub seats_of_bits : (test : ℕ → Bool) → a ≡ cond (test 0) 1 0 → b ≡ cond (test 1) 1 0 → c ≡ cond (test 2) 1 0 → d ≡ cond (test 3) 1 0 →
      e ≡ cond (test 4) 1 0 → f ≡ cond (test 5) 1 0 → g ≡ cond (test 6) 1 0 → h ≡ cond (test 7) 1 0 → seats_in byte ≡ filter test (below 8)
  seats_of_bits test ia ib ic id ie if' ig ih =
      same_kept (has_bit byte) test (below 8) (
        ap (λ n. n == 1) bit0 ∙ bit_is a (test 0) ia,
        (
          ap (λ n. n == 1) bit1 ∙ bit_is b (test 1) ib,
          (
            ap (λ n. n == 1) bit2 ∙ bit_is c (test 2) ic,
            (
              ap (λ n. n == 1) bit3 ∙ bit_is d (test 3) id,
              (
                ap (λ n. n == 1) bit4 ∙ bit_is e (test 4) ie,
                (
                  ap (λ n. n == 1) bit5 ∙ bit_is f (test 5) if',
                  (
                    ap (λ n. n == 1) bit6 ∙ bit_is g (test 6) ig,
                    (
                      ap (λ n. n == 1) bit7 ∙ bit_is h (test 7) ih,
                      tt,
                    ),
                  ),
                ),
              ),
            ),
          ),
        ),
      )

pub few_within : (test : ℕ → Bool) (players : ℕ) → players ≤ 8 → filter (λ k. nat_lt k players && test k) (below 8) ≡ filter test (below players)
few_within test players le = part_within test players 0 8 players (omega arith) le

-- whose marks they are, and that none of them sees the card's location
module _ (shape : Shape) (named : ℕ → Bool) (loc : ℕ) (seats : List ℕ) where
  abbrev shown : ℕ → Bool
  shown seat = list_any (λ other. other == seat) seats || (named seat && not (sees shape seat loc))

  pub joined_within : All (λ seat. seat < shape.players) (joined shape named loc seats)
  joined_within = All-filter shown (λ seat. seat < shape.players) (below shape.players) (below_within shape.players)

  unseen_by : All (λ seat. sees shape seat loc ≡ false) seats → (seat : ℕ) → shown seat ≡ true → sees shape seat loc ≡ false
  unseen_by old seat is = at (list_any (λ other. other == seat) seats) refl (named seat) (sees shape seat loc) refl is where
    at : (b : Bool) → list_any (λ other. other == seat) seats ≡ b → (n s : Bool) → sees shape seat loc ≡ s → (b || (n && not s)) ≡ true → sees shape seat loc ≡ false
    at true e n s e' is = is-in seat (λ seat. sees shape seat loc ≡ false) seats old e
    at false e true false e' is = e'
    at false e true true e' is = absurd (true≢false (sym is))
    at false e false s e' is = absurd (true≢false (sym is))

  pub joined_unseen : All (λ seat. sees shape seat loc ≡ false) seats → All (λ seat. sees shape seat loc ≡ false) (joined shape named loc seats)
  joined_unseen old =
      All-weaker (λ seat. shown seat ≡ true) (λ seat. sees shape seat loc ≡ false) (unseen_by old) (joined shape named loc seats)
      (filter_passes shown (below shape.players))
