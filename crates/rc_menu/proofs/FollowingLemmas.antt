-- Guards as those of games in which a suit is followed.
use Rattle.std.proofs.Common.{◌≡◌, ℕ, ◌+◌, ◌<◌, ◌||◌, ◌++◌, Bool, true, false, not, cond, List, [], ◌∷◌, Some}
use Rattle.std.proofs.Common.{zero, suc, map, length, get_or, append_assoc, take, drop, subst, arith}
use Rattle.std.proofs.Common.{refl, sym, ap, ap₂, ◌∙◌}
use Rattle.std.specs.Prelude.{All, MatchOption, Option, None}
use Rattle.std.proofs.lemmas.List.{length-append, length-take, map-append}
use mathlib.Core.Path.{fun_ext}
use Rattle.std.specs.List.{list_any}
use Rattle.rc_base.specs.Numbers.{below}
use Rattle.rc_sheet_spec.specs.Sheet.{Loc as PureLoc, any_of, cards_in, each_card, not_of, top_card}
use Rattle.rc_deck.proofs.EachLemmas.{any-map}
use Rattle.rc_play_spec.specs.Menu.{from_each, Item as PureItem}
use Rattle.rc_play_spec.specs.Scene.{CardValue, id_of}
use Rattle.rc_play_spec.specs.Value.{Scene as PureScene, Bind as PureBind, attr_of_any, both, card_bound, card_value}
use Rattle.rc_play_spec.specs.Value.{coll_value, last_of, nat_same, test_value}
use Rattle.rc_ast.specs.Names.{loc_seen}
use Rattle.rc_code.specs.declared.guards.CardTest.{CardTest}
use Rattle.rc_code.specs.declared.guards.CardTest.TheVariants.{Value, Against}
use Rattle.rc_code.specs.declared.guards.Sense.{Sense}
use Rattle.rc_code.specs.declared.guards.Sense.TheVariants.{Plain, Ne, Not}
use Rattle.rc_code.specs.declared.guards.GuardTest.{GuardTest}
use Rattle.rc_code.specs.declared.guards.GuardTest.TheVariants.{Known, OfCard, Top, Among}
use Rattle.rc_code.specs.declared.guards.GuardPart.{GuardPart}
use Rattle.rc_code.specs.declared.guards.Guard.{Guard}
use Rattle.rc_code.specs.declared.guards.Joint.TheVariants.{Any}
use Rattle.rc_code.specs.Following.{AreSamePlaces, AskTheSame, SaysNone, Follows as CodeFollows}
use Rattle.rc_code.specs.Guards.{card_test_meant, guard_meant, guard_test_meant, in_sense, part_meant}
use Rattle.rc_code.specs.Guards.{IsFixedCardTest, IsFixedGuardTest, IsFixedLoc, IsFixedPart}
use Rattle.rc_menu.specs.declared.asks.SoughtCard.{SoughtCard}
use Rattle.rc_menu.specs.Asks.{ask_value, joined, one_suffices, parts_told, told_of, IsInParts}
use Rattle.rc_menu.specs.Following.{passes_or_none, passes_test, Follows}
use Rattle.rc_menu.specs.Menu.{extended}
use Rattle.rc_menu.proofs.Offers.{counted_each, each_mapped, put_nothing, same_offers}
use Rattle.rc_menu.proofs.PartLemmas.{fixed_above, fixed_here, guard_told}

-- the cards of one location, wherever its form stands
same_cards : (s : PureScene CardValue) (vars : List (PureBind CardValue)) (one other : PureLoc) →
    one.who ≡ other.who → one.name ≡ other.name →
    coll_value s vars (cards_in one) ≡ coll_value s vars (cards_in other)
same_cards s vars one other who name = ap₂ (λ w n. coll_value s vars
    (cards_in (record { who = w; name = n; at = 0 }))) who name

-- tests that ask the same of a card, the one of them inside another variable
same_top : (s : PureScene CardValue) (name other name' other' : ℕ) (top top' : PureLoc) (c d : CardValue) →
    name ≡ name' → other ≡ other' →
    AreSamePlaces top top' → IsFixedLoc top' →
    both nat_same (attr_of_any s name' (Some d)) (attr_of_any s other'
    (card_value s (card_bound c ∷ card_bound d ∷ []) (top_card (cards_in top'))))
    ≡ both nat_same (attr_of_any s name (Some d)) (attr_of_any s other (card_value s (card_bound d ∷ [])
    (top_card (cards_in top))))
same_top s name other name' other' top top' c d n o same fixed =
    ap₂ (λ x y. both nat_same (attr_of_any s x (Some d)) y) (sym n)
    (ap₂ (λ x y. attr_of_any s x y) (sym o)
    (fixed_above top' fixed s (card_bound c ∷ card_bound d ∷ []) (card_bound d ∷ []) ∙ ap (λ cs. last_of cs)
    (same_cards s (card_bound d ∷ []) top' top (sym same.0) (sym same.1))))

asked_alike : (s : PureScene CardValue) (one other : CardTest) → AskTheSame one other → IsFixedCardTest other →
    (c d : CardValue) →
    told_of s (card_bound c ∷ []) (card_test_meant 1 other) d ≡ passes_test s one d
asked_alike s (Value name value) (Value name' value') same fixed c d = ap₂
    (λ x y. both nat_same (attr_of_any s x (Some d)) (Some y)) (sym same.0) (sym same.1)
asked_alike s (Against name top other) (Against name' top' other') same fixed c d = same_top s name other name'
    other' (loc_seen top) (loc_seen top') c d same.0 same.2 same.1 fixed
asked_alike s (Value name value) (Against name' top' other') same fixed c d = absurd same
asked_alike s (Against name top other) (Value name' value') same fixed c d = absurd same

-- that none of the cards of a location passes a test
none_passing : (s : PureScene CardValue) (loc among : PureLoc) (bound : ℕ) (card_test asked : CardTest)
    (c : CardValue) → AreSamePlaces loc among → AskTheSame card_test asked →
    IsFixedLoc among → IsFixedCardTest asked →
    told_of s [] (not_of (any_of (each_card (cards_in among)) bound (card_test_meant 1 asked))) c
    ≡ not (list_any (passes_test s card_test) (coll_value s [] (cards_in loc)))
none_passing s loc among bound card_test asked c same asks fixed fixed_test =
    ap not
    (any-map (λ m. test_value s (card_bound c ∷ m ∷ []) (card_test_meant 1 asked)) (λ d. card_bound d)
    (coll_value s (card_bound c ∷ []) (cards_in among))
    ∙ ap₂ (λ P cards. list_any P cards) (fun_ext (asked_alike s card_test asked asks fixed_test c))
    (fixed_here among fixed s (card_bound c ∷ []) [] ∙ same_cards s [] among loc (sym same.0) (sym same.1)))

none_told : (s : PureScene CardValue) (loc : PureLoc) (card_test : CardTest) (sense : Sense)
    (guard_test : GuardTest) → SaysNone loc card_test sense guard_test →
    IsFixedGuardTest guard_test → (c : CardValue) →
    told_of s [] (in_sense sense (guard_test_meant guard_test)) c ≡ not (list_any (passes_test s card_test)
    (coll_value s [] (cards_in loc)))
none_told s loc card_test Not (Among true among bound Plain asked) says fixed c = none_passing s loc (loc_seen among)
    bound card_test asked c says.0 says.1 fixed.0 fixed.1
none_told s loc card_test Not (Among true among bound Ne asked) says fixed c = absurd says
none_told s loc card_test Not (Among true among bound Not asked) says fixed c = absurd says
none_told s loc card_test Not (Among false among bound sense asked) says fixed c = absurd says
none_told s loc card_test Not (Known comparison) says fixed c = absurd says
none_told s loc card_test Not (OfCard asked) says fixed c = absurd says
none_told s loc card_test Not (Top at name value) says fixed c = absurd says
none_told s loc card_test Plain guard_test says fixed c = absurd says
none_told s loc card_test Ne guard_test says fixed c = absurd says

-- two answers in one
pub two_in_one : (answers : List Bool) (a b : Bool) → joined true (answers ++ a ∷ b ∷ []) ≡ joined true
    (answers ++ (a || b) ∷ [])
two_in_one [] true b = refl
two_in_one [] false b = refl
two_in_one (answer ∷ answers) a b = ap (λ more. answer || more) (two_in_one answers a b)

-- one answer behind others
pub one_behind : (answers : List Bool) (a before : Bool) → joined true answers ≡ before →
    joined true (answers ++ a ∷ []) ≡ (before || a)
one_behind [] true before h = ap (λ x. x || true) h
one_behind [] false before h = ap (λ x. x || false) h
one_behind (true ∷ answers) a before h = ap (λ x. x || a) h
one_behind (false ∷ answers) a before h = one_behind answers a before h

-- what is offered where none passes
none_here : (passes : Bool) (n : ℕ) (more : List (List ℕ)) → map (λ spots. n ∷ spots) (cond passes ([] ∷ []) []) ++
    more ≡ [] → (passes ≡ false) × (more ≡ [])
none_here true n more h = absurd (cc)
none_here false n more h = (refl, h)

-- what one says beside a denial
beside_none : (passes any : Bool) → any ≡ false → (passes || not any) ≡ true
beside_none true any none = refl
beside_none false false none = refl
beside_none false true none = absurd (cc)

beside_some : (passes any : Bool) → any ≡ true → (passes || not any) ≡ passes
beside_some true any some = refl
beside_some false true some = refl
beside_some false false some = absurd (cc)

neither : (a b : Bool) → (a || b) ≡ false → (a ≡ false) × (b ≡ false)
neither true b h = absurd (cc)
neither false b h = (refl, h)

module _ (passes : ℕ → Bool) where
  abbrev pub offers : ℕ → List ℕ → List (List ℕ)
  offers n ids = from_each (λ id. cond (passes id) ([] ∷ []) []) n ids

  none_passes : (n : ℕ) (ids : List ℕ) → offers n ids ≡ [] → list_any passes ids ≡ false
  none_passes n [] h = refl
  none_passes n (id ∷ ids) h =
      let here = none_here (passes id) n (offers (n + 1) ids) h in
      ap₂ (λ a b. a || b) here.0 (none_passes (n + 1) ids here.1)

  none_offered : (n : ℕ) (ids : List ℕ) → list_any passes ids ≡ false → offers n ids ≡ []
  none_offered n [] h = refl
  none_offered n (id ∷ ids) h =
      let here = neither (passes id) (list_any passes ids) h in
      ap₂ (λ b more. map (λ spots. n ∷ spots) (cond b ([] ∷ []) []) ++ more) here.0 (none_offered (n + 1) ids here.1)

  all_where_none : (n : ℕ) (ids : List ℕ) (any : Bool) → any ≡ false →
      from_each (λ id. [] ∷ []) n ids ≡ from_each (λ id. cond (passes id || not any) ([] ∷ []) []) n ids
  all_where_none n ids any none =
      ap (λ f. from_each f n ids)
      (fun_ext (λ id. ap (λ b. cond b ([] ∷ []) []) (sym (beside_none (passes id) any none))))

  those_where_some : (n : ℕ) (ids : List ℕ) (any : Bool) → any ≡ true →
      offers n ids ≡ from_each (λ id. cond (passes id || not any) ([] ∷ []) []) n ids
  those_where_some n ids any some =
      ap (λ f. from_each f n ids)
      (fun_ext (λ id. ap (λ b. cond b ([] ∷ []) []) (sym (beside_some (passes id) any some))))

  -- those that pass were offered, and nothing more than stood there before
  module _ (item : PureItem) (old put : List PureItem) (few : length old < 256) (ids : List ℕ)
      (is : put ≡ take 256 (old ++ map (extended item) (offers 0 ids))) where
    abbrev pub or_none : ℕ → List (List ℕ)
    or_none id = cond (passes_or_none passes ids id) ([] ∷ []) []

    nothing_more : (offered : List (List ℕ)) → length (take 256 (old ++ map (extended item) offered)) ≡ length old →
        offered ≡ []
    nothing_more [] h = refl
    nothing_more (path ∷ offered) h =
        let front = length-take 256 (old ++ map (extended item) (path ∷ offered)) in
        let whole = length-append old (map (extended item) (path ∷ offered)) in
        absurd (omega (arith, few, h, front, whole))

    pub all_offered : length put ≡ length old → (new : List PureItem) →
        new ≡ take 256 (put ++ map (extended item) (from_each (λ n. [] ∷ []) 0 (below (length ids)))) →
        new ≡ take 256 (old ++ map (extended item) (from_each or_none 0 ids))
    all_offered as_many new h =
        let none : offers 0 ids ≡ [] = nothing_more (offers 0 ids) (ap length (sym is) ∙ as_many) in
        let same : put ≡ old = is ∙ ap (λ xs. take 256 (old ++ map (extended item) xs)) none ∙ sym
        (put_nothing old (omega (arith, few))) in
        h ∙ ap₂ (λ xs ys. take 256 (xs ++ map (extended item) ys)) same
        (counted_each (length ids) ids refl ∙ all_where_none 0 ids (list_any passes ids) (none_passes 0 ids none))

    pub those_offered : (any : Bool) → list_any passes ids ≡ any → (length put ≡ length old → ⊥) →
        put ≡ take 256 (old ++ map (extended item) (from_each or_none 0 ids))
    those_offered true some more =
        is ∙ ap (λ xs. take 256 (old ++ map (extended item) xs)) (those_where_some 0 ids (list_any passes ids) some)
    those_offered false none more =
        absurd (more (ap length (is ∙ ap (λ xs. take 256 (old ++ map (extended item) xs)) (none_offered 0 ids none)
        ∙ sym (put_nothing old (omega (arith, few))))))

-- what holds of all parts holds of one of them, and of those before it
pub all_here : {A : Type 0} (P : A → Type 0) (before : List A) (x : A) (behind : List A) →
    All P (before ++ x ∷ behind) → P x
all_here P [] x behind all = all 0 x (omega arith)
all_here P (y ∷ before) x behind all = all_here P before x behind (λ k d lt. all (suc k) d (omega (arith, lt)))

pub all_before : {A : Type 0} (P : A → Type 0) (before behind : List A) → All P (before ++ behind) →
    (k : ℕ) (d : A) → k < length before → P (get_or before k d)
all_before P [] behind all k d lt = absurd (omega (arith, lt))
all_before P (x ∷ before) behind all zero d lt = all 0 d (omega arith)
all_before P (x ∷ before) behind all (suc k) d lt = all_before P before behind
    (λ j e l. all (suc j) e (omega (arith, l))) k d (omega (arith, lt))

-- a guard that is known to follow does so
pub follows_so : (guard : Guard) (before : List GuardPart) (card_test : CardTest) (last : GuardPart) →
    guard.joint ≡ Any →
    guard.parts.items ≡ before ++ record { sense = Plain; guard_test = OfCard card_test } ∷ last ∷ [] →
    SaysNone (loc_seen guard.loc) card_test last.sense last.guard_test → IsFixedPart last →
    Follows guard before card_test
follows_so guard before card_test last any parts says fixed = (
  ap one_suffices any,
  λ s c.
      guard_told s [] guard c
      ∙ ap₂ (λ one ps. joined one (parts_told s [] ps c)) (ap one_suffices any) parts
      ∙ ap (joined true) (map-append (λ part. told_of s [] (part_meant part) c) before
      (record { sense = Plain; guard_test = OfCard card_test } ∷ last ∷ []))
      ∙ ap (λ b. joined true (parts_told s [] before c ++ passes_test s card_test c ∷ b ∷ []))
      (none_told s (loc_seen guard.loc) card_test last.sense last.guard_test says fixed c)
      ∙ two_in_one (parts_told s [] before c) (passes_test s card_test c)
      (not (list_any (passes_test s card_test) (coll_value s [] (cards_in (loc_seen guard.loc))))),
)

-- two lists that end alike
last_two : {A : Type 0} (before first : List A) (one last one' last' : A) → before ++ one ∷ last ∷ [] ≡ first ++ one'
    ∷ last' ∷ [] →
    (before ≡ first) × ((one ≡ one') × (last ≡ last'))
last_two [] [] one last one' last' h = (refl, (ap (λ xs. get_or xs 0 one) h, ap (λ xs. get_or xs 1 one) h))
last_two [] (x ∷ first) one last one' last' h =
    let more = length-append first (one' ∷ last' ∷ []) in
    absurd (omega (arith, ap length h, more))
last_two (x ∷ before) [] one last one' last' h =
    let more = length-append before (one ∷ last ∷ []) in
    absurd (omega (arith, ap length h, more))
last_two (x ∷ before) (y ∷ first) one last one' last' h =
    let rest = last_two before first one last one' last' (ap (drop 1) h) in
    (ap₂ (λ x xs. x ∷ xs) (ap (λ xs. get_or xs 0 x) h) rest.0, rest.1)

of_card : (asked asked' : CardTest) → OfCard asked ≡ OfCard asked' → asked ≡ asked'
of_card asked asked' h = cc

pub split_so : (guard : Guard) (before rest : List GuardPart) (one last : GuardPart) (card_test : CardTest) →
    CodeFollows (loc_seen guard.loc) guard.joint guard.parts.items →
    All IsFixedPart guard.parts.items → guard.parts.items ≡ rest ++ last ∷ [] → rest ≡ before ++ one ∷ [] →
    one.guard_test ≡ OfCard card_test →
    Follows guard before card_test × (All IsFixedPart before × IsFixedCardTest card_test)
split_so guard before rest one last card_test follows fixed ends rests asks =
    let parts : guard.parts.items ≡ before ++ one ∷ last ∷ [] = ends ∙ ap (λ xs. xs ++ last ∷ []) rests
    ∙ append_assoc before (one ∷ []) (last ∷ []) in
    let two = last_two before follows.1 one last (record { sense = Plain; guard_test = OfCard follows.2 }) follows.3
    (sym parts ∙ follows.4) in
    let same : follows.2 ≡ card_test = of_card follows.2 card_test (sym (ap (λ p. p.guard_test) two.1.0) ∙ asks) in
    let all_rest : All IsFixedPart rest = all_before IsFixedPart rest (last ∷ [])
    (subst (All IsFixedPart) ends fixed) in
    let all_one : All IsFixedPart (before ++ one ∷ []) = subst (All IsFixedPart) rests all_rest in (
      follows_so guard before card_test last follows.0
          (parts ∙ ap (λ p. before ++ p ∷ last ∷ [])
          (two.1.0 ∙ ap (λ t. record { sense = Plain; guard_test = OfCard t }) same))
          (subst (λ t. SaysNone (loc_seen guard.loc) t last.sense last.guard_test) same
          (subst (λ p. SaysNone (loc_seen guard.loc) follows.2 p.sense p.guard_test) (sym two.1.1) follows.5))
          (all_here IsFixedPart rest last [] (subst (All IsFixedPart) ends fixed)),
      (
        all_before IsFixedPart before (one ∷ []) all_one,
        subst IsFixedGuardTest asks (all_here IsFixedPart before one [] all_one),
      ),
    )

-- what is offered of the cards with these ids
pub passing_offers : (passes : ℕ → Bool) (told : CardValue → Bool) (ids : List ℕ) (cards : List CardValue) →
    ids ≡ map id_of cards → ((c : CardValue) → passes (id_of c) ≡ told c) →
    from_each (λ id. cond (passes_or_none passes ids id) ([] ∷ []) []) 0 ids ≡ from_each
    (λ c. cond (passes_or_none told cards c) ([] ∷ []) []) 0 cards
passing_offers passes told ids cards are same =
    ap (λ xs. from_each (λ id. cond (passes_or_none passes xs id) ([] ∷ []) []) 0 xs) are
    ∙ each_mapped (λ id. cond (passes_or_none passes (map id_of cards) id) ([] ∷ []) []) id_of 0 cards
    ∙ same_offers (λ c. passes_or_none passes (map id_of cards) (id_of c)) (passes_or_none told cards) cards
    (λ c. ap₂ (λ a b. a || not b) (same c) (any-map passes id_of cards ∙ ap (λ P. list_any P cards) (fun_ext same)))

-- a guard by its first parts, of which it is known what they come to
abbrev pub Settled : PureScene CardValue → List (PureBind CardValue) → List GuardPart → Bool → Bool →
    List SoughtCard → Type 0
Settled s vars parts any settled asks = (c : CardValue) →
    joined any (parts_told s vars parts c) ≡ cond settled any (joined any (map (ask_value s vars c) asks))

pub whole_told : (s : PureScene CardValue) (vars : List (PureBind CardValue)) (guard : Guard)
    (parts : List GuardPart) (any settled : Bool) (asks : List SoughtCard) →
    parts ≡ guard.parts.items → any ≡ one_suffices guard.joint → Settled s vars parts any settled asks →
    IsInParts s vars (guard_meant guard) (record { settled = settled; any = any }) asks
whole_told s vars guard parts any settled asks are one h = λ c.
    guard_told s vars guard c ∙ ap₂ (λ one ps. joined one (parts_told s vars ps c)) (sym one) (sym are) ∙ h c

-- where the first parts settle it
first_told : (s : PureScene CardValue) (guard : Guard) (parts : List GuardPart) (card_test : CardTest)
    (any settled : Bool) (asks : List SoughtCard) →
    Follows guard parts card_test → any ≡ one_suffices guard.joint → settled ≡ true → Settled s [] parts any settled
    asks →
    IsInParts s [] (guard_meant guard) (record { settled = settled; any = any }) asks
first_told s guard parts card_test any settled asks follows one so h = λ c.
    let yes : any ≡ true = one ∙ follows.0 in
    let all : joined true (parts_told s [] parts c) ≡ true =
    ap (λ b. joined b (parts_told s [] parts c)) (sym yes) ∙ h c ∙ ap
    (λ b. cond b any (joined any (map (ask_value s [] c) asks))) so ∙ yes in
    follows.1 s c ∙ one_behind (parts_told s [] parts c) _ true all
    ∙ sym (ap (λ b. cond b any (joined any (map (ask_value s [] c) asks))) so ∙ yes)

first_settled : (s : PureScene CardValue) (vars : List (PureBind CardValue)) (guard : Guard) (parts : List GuardPart)
    (card_test : CardTest) (any settled : Bool) (asks : List SoughtCard) →
    vars ≡ [] → Follows guard parts card_test → any ≡ one_suffices guard.joint → settled ≡ true →
    Settled s vars parts any settled asks →
    IsInParts s vars (guard_meant guard) (record { settled = settled; any = any }) asks
first_settled s vars guard parts card_test any settled asks none follows one so h =
    subst (λ xs. IsInParts s xs (guard_meant guard) (record { settled = settled; any = any }) asks) (sym none)
    (first_told s guard parts card_test any settled asks follows one so
    (subst (λ xs. Settled s xs parts any settled asks) none h))

pub settled_told : {B : Type 0} (s : PureScene CardValue) (vars : List (PureBind CardValue)) (guard : Guard)
    (parts : List GuardPart) (then : Option B) (seen : B → CardTest) (any settled : Bool) (asks : List SoughtCard) →
    vars ≡ [] → MatchOption then (parts ≡ guard.parts.items) (λ t. Follows guard parts (seen t)) →
    any ≡ one_suffices guard.joint → settled ≡ true → Settled s vars parts any settled asks →
    IsInParts s vars (guard_meant guard) (record { settled = settled; any = any }) asks
settled_told s vars guard parts None seen any settled asks none split one so h = whole_told s vars guard parts any
    settled asks split one h
settled_told s vars guard parts (Some t) seen any settled asks none split one so h = first_settled s vars guard parts
    (seen t) any settled asks none split one so h

-- where they leave it to the test
then_told : (s : PureScene CardValue) (guard : Guard) (parts : List GuardPart) (card_test : CardTest)
    (any settled : Bool) (asks : List SoughtCard) →
    Follows guard parts card_test → any ≡ one_suffices guard.joint → settled ≡ false → asks ≡ [] →
    Settled s [] parts any settled asks → (c : CardValue) →
    passes_or_none (passes_test s card_test) (coll_value s [] (cards_in (loc_seen guard.loc))) c ≡ told_of s []
    (guard_meant guard) c
then_told s guard parts card_test any settled asks follows one so empty h c =
    let yes : any ≡ true = one ∙ follows.0 in
    let none : joined true (parts_told s [] parts c) ≡ false =
    ap (λ b. joined b (parts_told s [] parts c)) (sym yes) ∙ h c ∙ ap
    (λ b. cond b any (joined any (map (ask_value s [] c) asks))) so
    ∙ ap₂ (λ b xs. joined b (map (ask_value s [] c) xs)) yes empty in
    sym (follows.1 s c ∙ one_behind (parts_told s [] parts c) _ false none)

pub then_offers : (s : PureScene CardValue) (vars : List (PureBind CardValue)) (guard : Guard)
    (parts : List GuardPart) (card_test : CardTest) (any settled : Bool) (asks : List SoughtCard) →
    vars ≡ [] → Follows guard parts card_test → any ≡ one_suffices guard.joint → settled ≡ false → asks ≡ [] →
    Settled s vars parts any settled asks →
    from_each (λ c. cond (passes_or_none (passes_test s card_test)
    (coll_value s vars (cards_in (loc_seen guard.loc))) c) ([] ∷ []) []) 0
    (coll_value s vars (cards_in (loc_seen guard.loc)))
    ≡ from_each (λ c. cond (told_of s vars (guard_meant guard) c) ([] ∷ []) []) 0
    (coll_value s vars (cards_in (loc_seen guard.loc)))
then_offers s vars guard parts card_test any settled asks none follows one so empty h =
    subst (λ xs. from_each (λ c. cond (passes_or_none (passes_test s card_test)
    (coll_value s xs (cards_in (loc_seen guard.loc))) c) ([] ∷ []) []) 0
    (coll_value s xs (cards_in (loc_seen guard.loc)))
    ≡ from_each (λ c. cond (told_of s xs (guard_meant guard) c) ([] ∷ []) []) 0
    (coll_value s xs (cards_in (loc_seen guard.loc)))) (sym none)
    (same_offers (passes_or_none (passes_test s card_test) (coll_value s [] (cards_in (loc_seen guard.loc))))
    (told_of s [] (guard_meant guard)) (coll_value s [] (cards_in (loc_seen guard.loc)))
    (then_told s guard parts card_test any settled asks follows one so empty
    (subst (λ xs. Settled s xs parts any settled asks) none h)))

pub nothing_asked : (asks : List SoughtCard) → length asks ≡ 0 → asks ≡ []
nothing_asked [] h = refl
nothing_asked (ask ∷ asks) h = absurd (omega (arith, h))
