-- The members of a domain, by their positions.
use Rattle.std.proofs.Common.{◌≡◌, ℕ, zero, suc, ◌+◌, ◌<◌, ◌≤◌, List, [], ◌∷◌, ◌++◌, length, get_or, map, Option, Some, None, IfSome, refl, sym, ap, ◌∙◌, subst, arith}
use Rattle.std.specs.Prelude.{filter, filter_map, All}
use Rattle.std.proofs.lemmas.List.Elements.{recursion_from_All, All-from_recursion}
use Rattle.std.proofs.lemmas.List.{length-map}
use Rattle.std.proofs.lemmas.List.FromFn.{length-range_with_len, get_or-range_with_len}
use Rattle.rc_base.specs.Numbers.{below}
use Rattle.rc_deck.proofs.EachLemmas.{append_each}
use Rattle.rc_sheet_spec.specs.Sheet.{Domain, Alt, do_alt, if_alt, any_alt}
use Rattle.rc_sheet_spec.specs.WellFormed.{IsWellFormed}
use Rattle.rc_play_spec.specs.Control.{Frame}
use Rattle.rc_play_spec.specs.Owners.{mover}
use Rattle.rc_play_spec.specs.Shape.{Shape, shape_of}
use Rattle.rc_play_spec.specs.Table.{IsSound}
use Rattle.rc_play_spec.specs.Value.{Scene, Bind, player_bound, card_bound, group_bound, both, nat_same, firsts, attr_of, groups_by, members}
use Rattle.rc_play_spec.specs.Scene.{CardValue, Vars}
use Rattle.rc_play_spec.specs.Bound.{IsBindOf}
use Rattle.rc_play_spec.specs.Menu.{bindings_of}
use Rattle.rc_play_spec.specs.About.{About, scene_at}
use Rattle.rc_play_spec.proofs.CardLemmas.{read_cards, member_binds, get_each}
use Rattle.rc_table.specs.Laid.{Laid}
use Rattle.rc_value.specs.declared.cards.Card.{Card}
use Rattle.rc_value.specs.Cards.{value_seen, values_seen}
use Rattle.rc_value.specs.declared.scope.Bind.{Bind as BindCode}
use Rattle.rc_value.specs.Seen.{bind_seen}

-- what is there, and what isn't
mapped_at : {X Y : Type 0} (f : X → Y) (xs : List X) (i : ℕ) (d : Y) (x : X) → i < length xs → x ≡ get_or xs i x → get_or (map f xs) i d ≡ f x
mapped_at f [] i d x lt is = absurd (omega (arith, lt))
mapped_at f (y ∷ xs) zero d x lt is = ap f (sym is)
mapped_at f (y ∷ xs) (suc i) d x lt is = mapped_at f xs i d x (omega (arith, lt)) is

mapped_none : {X Y : Type 0} (f : X → Y) (xs : List X) (i : ℕ) (d : Y) → length xs ≤ i → get_or (map f xs) i d ≡ d
mapped_none f [] i d le = refl
mapped_none f (x ∷ xs) zero d le = absurd (omega (arith, le))
mapped_none f (x ∷ xs) (suc i) d le = mapped_none f xs i d (omega (arith, le))

abbrev player : ℕ → Bind CardValue
player n = player_bound n

pub player_there : (n spot : ℕ) → spot < n → player spot ≡ get_or (map (λ n. player_bound n) (below n)) spot (player_bound 0)
player_there n spot lt =
    let at : 0 + spot ≡ spot = omega arith in
    sym (mapped_at (λ n. player_bound n) (below n) spot (player_bound 0) spot (omega (arith, lt, length-range_with_len 0 n)) (sym (get_or-range_with_len 0 n spot spot lt ∙ at)))

pub player_none : (n spot : ℕ) → n ≤ spot → player 0 ≡ get_or (map (λ n. player_bound n) (below n)) spot (player_bound 0)
player_none n spot le = sym (mapped_none (λ n. player_bound n) (below n) spot (player_bound 0) (omega (arith, le, length-range_with_len 0 n)))

pub card_there : (cards : List Card) (all : List CardValue) (spot : ℕ) (card : Card) → values_seen cards ≡ all → spot < length cards →
    card ≡ get_or cards spot card → card_bound (value_seen card) ≡ get_or (map (λ c. card_bound c) all) spot (player_bound 0)
card_there cards all spot card are lt is =
    sym (mapped_at (λ c. card_bound c) (values_seen cards) spot (player_bound 0) (value_seen card) (omega (arith, lt, length-map cards value_seen))
    (sym (mapped_at value_seen cards spot (value_seen card) card lt is)))
    ∙ ap (λ cs. get_or (map (λ c. card_bound c) cs) spot (player_bound 0)) are

-- the same of a collection's cards
pub card_listed : (cards : List CardValue) (spot : ℕ) (card : CardValue) → spot < length cards → card ≡ get_or cards spot card →
    card_bound card ≡ get_or (map (λ c. card_bound c) cards) spot (player_bound 0)
card_listed cards spot card lt is = sym (mapped_at (λ c. card_bound c) cards spot (player_bound 0) card lt is)

pub no_card : (cards : List CardValue) (spot : ℕ) → length cards ≤ spot → player 0 ≡ get_or (map (λ c. card_bound c) cards) spot (player_bound 0)
no_card cards spot le = sym (mapped_none (λ c. card_bound c) cards spot (player_bound 0) le)

-- a group, by its value's place among the values
pub group_there : (scene : Scene CardValue) (attr : ℕ) (cards : List CardValue) (values : List ℕ) (spot value : ℕ) (group : List CardValue) →
    values ≡ firsts (filter_map (attr_of scene attr) cards) → spot < length values → value ≡ get_or values spot value →
    group ≡ filter (λ c. both nat_same (attr_of scene attr c) (Some value)) cards →
    group_bound group ≡ get_or (map (λ g. group_bound g) (groups_by scene attr cards)) spot (player_bound 0)
group_there scene attr cards values spot value group are lt is has =
    let of : ℕ → List CardValue = λ value. filter (λ c. both nat_same (attr_of scene attr c) (Some value)) cards in
    let at : get_or (map of values) spot (of value) ≡ of value = mapped_at of values spot (of value) value lt is in
    ap (λ g. group_bound g) has
    ∙ sym (mapped_at (λ g. group_bound g) (map of values) spot (player_bound 0) (of value) (omega (arith, lt, length-map values of)) (sym at))
    ∙ ap (λ vs. get_or (map (λ g. group_bound g) (map of vs)) spot (player_bound 0)) are

-- one variable more
pub bound_more : (shape : Shape) (vars vars' : Vars) (bind : Bind CardValue) → vars' ≡ vars ++ bind ∷ [] → All (IsBindOf shape) vars → IsBindOf shape bind →
    All (IsBindOf shape) vars'
bound_more shape vars vars' bind is bound there =
    subst (All (IsBindOf shape)) (sym is)
    (All-from_recursion (IsBindOf shape) (vars ++ bind ∷ [])
    (append_each (IsBindOf shape) vars (bind ∷ []) (recursion_from_All (IsBindOf shape) vars bound) (there, tt)))

-- a member is a player, a card or cards of the shape
pub member_there : (about : About) → about.shape ≡ shape_of about.sheet → IsWellFormed about.sheet → (laid : Laid) → laid.shape ≡ about.shape →
    IsSound laid.shape laid.table → (frames : List Frame) (vars : Vars) → All (IsBindOf about.shape) vars → (domain : Domain) (spot : ℕ) →
    IsBindOf about.shape (get_or (members (scene_at about laid.table frames) vars domain) spot (player_bound 0))
member_there about fits well laid same sound frames vars bound domain spot =
    let scene = scene_at about laid.table frames in
    let players : about.shape.players ≡ about.sheet.players = ap (λ (s : Shape). s.players) fits in
    let some = well.limits.some_players in
    get_each (IsBindOf about.shape) (player_bound 0) (omega (arith, players, some)) (members scene vars domain) spot
    (member_binds about.shape scene (λ n. read_cards about.shape laid.table (subst (λ shape. IsSound shape laid.table) same sound).ids (mover about.sheet frames) n) players vars
    (recursion_from_All (IsBindOf about.shape) vars bound) domain)

-- where it is found, what is bound to it is such a member
pub bind_there : (shape : Shape) (member : Bind CardValue) (o : Option BindCode) → IsBindOf shape member → IfSome o (λ bind. bind_seen bind ≡ member) →
    IfSome o (λ bind. IsBindOf shape (bind_seen bind))
bind_there shape member None there is = tt
bind_there shape member (Some bind) there is = subst (IsBindOf shape) (sym is) there

module _ (scene : Scene CardValue) where
  -- no position binds nothing
  none_bound : (vars : Vars) (alt : Alt) → bindings_of scene vars alt [] ≡ vars
  none_bound vars (do_alt effects) = refl
  none_bound vars (if_alt guard effects) = refl
  none_bound vars (any_alt domain bound alt) = refl

  pub bare_any : (vars : Vars) (domain : Domain) (bound : ℕ) (alt : Alt) (spots : List ℕ) → length spots ≡ 0 →
      bindings_of scene vars (any_alt domain bound alt) spots ≡ bindings_of scene vars alt spots
  bare_any vars domain bound alt [] none = sym (none_bound vars alt)
  bare_any vars domain bound alt (spot ∷ spots) none = absurd (omega (arith, none))
