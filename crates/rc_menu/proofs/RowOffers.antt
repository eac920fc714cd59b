-- What is offered of the cards of a row.
use Rattle.std.proofs.Common.{◌≡◌, ℕ, ◌+◌, ◌++◌, Bool, true, false, cond, List, [], ◌∷◌, map, length, arith, refl, sym, ap, ◌∙◌}
use mathlib.Core.Path.{fun_ext}
use Rattle.std.specs.List.{list_all}
use Rattle.rc_sheet_spec.specs.Sheet.{Alt as PureAlt, Test as PureTest, cards_in, if_alt}
use Rattle.rc_play_spec.specs.Menu.{from_each, spots_of}
use Rattle.rc_play_spec.specs.Scene.{CardValue, id_of}
use Rattle.rc_play_spec.specs.Value.{Scene as PureScene, Bind as PureBind, coll_value}
use Rattle.rc_ast.specs.Names.{loc_seen}
use Rattle.rc_code.specs.declared.guards.Guard.{Guard}
use Rattle.rc_code.specs.Guards.{guard_meant, IsGuardOf}
use Rattle.rc_menu.specs.declared.asks.SoughtCard.{SoughtCard}
use Rattle.rc_menu.specs.declared.asks.SoughtCard.TheVariants.{Worth, Whole, Value, CardTest}
use Rattle.rc_menu.specs.declared.asks.Parts.{Parts}
use Rattle.rc_menu.specs.Asks.{ask_value, asks_value, met_value, joined, told_of, IsInParts}
use Rattle.rc_menu.proofs.Offers.{each_mapped, offered_if, same_offers}

-- where values are all that is asked, a card's id tells all
module _ (s : PureScene CardValue) (vars : List (PureBind CardValue)) where
  met_all : (c : CardValue) (asks : List SoughtCard) → list_all asks_value asks ≡ true →
      map (met_value (id_of c)) asks ≡ map (ask_value s vars c) asks
  met_all c [] sought = refl
  met_all c (Value value row ∷ asks) sought = ap (λ bs. met_value (id_of c) (Value value row) ∷ bs) (met_all c asks sought)
  met_all c (CardTest equal value row ∷ asks) sought = ap (λ bs. met_value (id_of c) (CardTest equal value row) ∷ bs) (met_all c asks sought)
  met_all c (Worth w ∷ asks) sought = absurd (cc)
  met_all c (Whole t ∷ asks) sought = absurd (cc)

  pub row_offers : (asks : List SoughtCard) (any sought : Bool) (ids : List ℕ) (cards : List CardValue) → sought ≡ list_all asks_value asks → sought ≡ true → ids ≡ map id_of cards →
      from_each (λ id. cond (joined any (map (met_value id) asks)) ([] ∷ []) []) 0 ids
      ≡ from_each (λ c. cond (joined any (map (ask_value s vars c) asks)) ([] ∷ []) []) 0 cards
  row_offers asks any sought ids cards is so are =
      ap (from_each (λ id. cond (joined any (map (met_value id) asks)) ([] ∷ []) []) 0) are
      ∙ each_mapped (λ id. cond (joined any (map (met_value id) asks)) ([] ∷ []) []) id_of 0 cards
      ∙ same_offers (λ c. joined any (map (met_value (id_of c)) asks)) (λ c. joined any (map (ask_value s vars c) asks)) cards
      (λ c. ap (joined any) (met_all c asks (sym is ∙ so)))

  -- the same of a guard in parts
  pub part_offers : (t : PureTest) (parts : Parts) (asks : List SoughtCard) (ids : List ℕ) (cards : List CardValue) → list_all asks_value asks ≡ true → ids ≡ map id_of cards →
      IsInParts s vars t parts asks →
      from_each (λ id. cond (cond parts.settled parts.any (joined parts.any (map (met_value id) asks))) ([] ∷ []) []) 0 ids
      ≡ from_each (λ c. cond (told_of s vars t c) ([] ∷ []) []) 0 cards
  part_offers t parts asks ids cards sought are h =
      ap (from_each (λ id. cond (cond parts.settled parts.any (joined parts.any (map (met_value id) asks))) ([] ∷ []) []) 0) are
      ∙ each_mapped (λ id. cond (cond parts.settled parts.any (joined parts.any (map (met_value id) asks))) ([] ∷ []) []) id_of 0 cards
      ∙ same_offers (λ c. cond parts.settled parts.any (joined parts.any (map (met_value (id_of c)) asks))) (told_of s vars t) cards
      (λ c. ap (λ bs. cond parts.settled parts.any (joined parts.any bs)) (met_all c asks sought) ∙ sym (h c))

  -- and of the alternative whose guard it is
  pub guard_offers : (alt : PureAlt) (guard : Guard) → IsGuardOf alt guard →
      from_each (λ c. cond (told_of s vars (guard_meant guard) c) ([] ∷ []) []) 0 (coll_value s vars (cards_in (loc_seen guard.loc))) ≡ spots_of s vars alt
  guard_offers alt guard h =
      offered_if s vars (if_alt (guard_meant guard) h.1) (guard_meant guard) h.1 (coll_value s vars (cards_in (loc_seen guard.loc))) refl
      ∙ ap (spots_of s vars) (sym h.2)

-- one answer alone is all of them
joined_sole : (any b : Bool) → b ≡ joined any (b ∷ [])
joined_sole true true = refl
joined_sole true false = refl
joined_sole false true = refl
joined_sole false false = refl

pub sole_offers : (ask : SoughtCard) (any : Bool) (asks : List SoughtCard) (ids : List ℕ) → asks ≡ ask ∷ [] →
    from_each (λ id. cond (met_value id ask) ([] ∷ []) []) 0 ids ≡ from_each (λ id. cond (joined any (map (met_value id) asks)) ([] ∷ []) []) 0 ids
sole_offers ask any asks ids is =
    ap (λ f. from_each f 0 ids)
    (fun_ext (λ id. ap (λ b. cond b ([] ∷ []) []) (joined_sole any (met_value id ask) ∙ ap (λ xs. joined any (map (met_value id) xs)) (sym is))))

-- what is settled once and for all, and what isn't
each_alike : {A B : Type 0} (offered : List (List ℕ)) (n : ℕ) (xs : List A) (ys : List B) → length xs ≡ length ys →
    from_each (λ x. offered) n xs ≡ from_each (λ y. offered) n ys
each_alike offered n [] [] alike = refl
each_alike offered n [] (y ∷ ys) alike = absurd (omega (arith, alike))
each_alike offered n (x ∷ xs) [] alike = absurd (omega (arith, alike))
each_alike offered n (x ∷ xs) (y ∷ ys) alike = ap (λ more. map (λ s. n ∷ s) offered ++ more) (each_alike offered (n + 1) xs ys (omega (arith, alike)))

pub settled_offers : {A B : Type 0} (way : Bool) (told : B → Bool) (xs : List A) (ys : List B) → length xs ≡ length ys → ((y : B) → told y ≡ way) →
    from_each (λ x. cond way ([] ∷ []) []) 0 xs ≡ from_each (λ y. cond (told y) ([] ∷ []) []) 0 ys
settled_offers way told xs ys alike same =
    each_alike (cond way ([] ∷ []) []) 0 xs ys alike
    ∙ ap (λ g. from_each g 0 ys) (fun_ext (λ y. ap (λ b. cond b ([] ∷ []) []) (sym (same y))))

pub asked_offers : (settled any : Bool) (f : ℕ → Bool) (ids : List ℕ) → settled ≡ false →
    from_each (λ id. cond (f id) ([] ∷ []) []) 0 ids ≡ from_each (λ id. cond (cond settled any (f id)) ([] ∷ []) []) 0 ids
asked_offers settled any f ids so =
    ap (λ g. from_each g 0 ids) (fun_ext (λ id. ap (λ way. cond (cond way any (f id)) ([] ∷ []) []) (sym so)))
