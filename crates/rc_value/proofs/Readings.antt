-- What expressions stand for in a sound table: cards of the shape, numbers within the clamp, and locations that are there.
use Rattle.std.proofs.Common.{◌≡◌, ℕ, List, [], ◌∷◌, map, slice_get, Option, Some, None, IfSome, sym, ap, ◌∙◌, subst}
use Rattle.std.specs.Prelude.{option_map, All}
use Rattle.std.specs.List.{AllByRecursion}
use Rattle.std.proofs.lemmas.List.Elements.{recursion_from_All, All-from_recursion}
use Rattle.rc_sheet_spec.specs.Sheet.{LocName, Loc, CardExpr, CollExpr}
use Rattle.rc_sheet_spec.specs.Naming.{class_of}
use Rattle.rc_sheet_spec.specs.WellFormed.{is_mem, holds_references}
use Rattle.rc_play_spec.specs.Control.{Frame}
use Rattle.rc_play_spec.specs.Owners.{mover}
use Rattle.rc_play_spec.specs.Shape.{Shape, shape_of}
use Rattle.rc_play_spec.specs.Table.{Table, IsSound}
use Rattle.rc_play_spec.specs.Value.{who_value, loc_place, card_value, coll_value}
use Rattle.rc_play_spec.specs.Scene.{CardValue, Vars}
use Rattle.rc_play_spec.specs.Bound.{IsCardOf, IsBindOf}
use Rattle.rc_play_spec.specs.About.{About, scene_at}
use Rattle.rc_play_spec.proofs.Places.{place_stands}
use Rattle.rc_play_spec.proofs.CardLemmas.{AreCards, MayBeCard, read_cards, card_cards, coll_cards}
use Rattle.rc_table.specs.Laid.{Laid}
use Rattle.rc_value.specs.declared.cards.Card.{Card}
use Rattle.rc_value.specs.Cards.{value_seen}
use Rattle.rc_value.specs.Leads.{HoldsAs}

seen_card : (shape : Shape) (o : Option Card) (v : Option CardValue) → option_map value_seen o ≡ v → MayBeCard shape v →
    IfSome o (λ card. IsCardOf shape (value_seen card))
seen_card shape None v is may = tt
seen_card shape (Some card) v is may = subst (MayBeCard shape) (sym is) may

seen_cards : (shape : Shape) (cards : List Card) → AreCards shape (map value_seen cards) → AllByRecursion (λ card. IsCardOf shape (value_seen card)) cards
seen_cards shape [] all = tt
seen_cards shape (card ∷ cards) all = (all.0, seen_cards shape cards all.1)

module _ (about : About) (fits : about.shape ≡ shape_of about.sheet) (laid : Laid) (same : laid.shape ≡ about.shape) (sound : IsSound laid.shape laid.table)
    (frames : List Frame) (vars : Vars) (bound : All (IsBindOf about.shape) vars) where
  there : (n : ℕ) → AreCards about.shape ((scene_at about laid.table frames).cards_at n) × AreCards about.shape ((scene_at about laid.table frames).known_at n)
  there n = read_cards about.shape laid.table (subst (λ shape. IsSound shape laid.table) same sound).ids (mover about.sheet frames) n

  same_players : about.shape.players ≡ about.sheet.players
  same_players = ap (λ (s : Shape). s.players) fits

  pub card_there : (e : CardExpr) (o : Option Card) → option_map value_seen o ≡ card_value (scene_at about laid.table frames) vars e →
      IfSome o (λ card. IsCardOf about.shape (value_seen card))
  card_there e o is =
      seen_card about.shape o (card_value (scene_at about laid.table frames) vars e) is
      (card_cards about.shape (scene_at about laid.table frames) there same_players vars (recursion_from_All (IsBindOf about.shape) vars bound) e)

  pub cards_there : (e : CollExpr) (cards : List Card) → map value_seen cards ≡ coll_value (scene_at about laid.table frames) vars e →
      All (λ card. IsCardOf about.shape (value_seen card)) cards
  cards_there e cards is =
      All-from_recursion (λ card. IsCardOf about.shape (value_seen card)) cards
      (seen_cards about.shape cards
      (subst (AreCards about.shape) (sym is)
      (coll_cards about.shape (scene_at about laid.table frames) there same_players vars (recursion_from_All (IsBindOf about.shape) vars bound) e)))

-- the place of a location's name is one that holds what the name does
loc_holds : (about : About) (table : Table) (frames : List Frame) (vars : Vars) (loc : Loc) (n : ℕ) → about.shape ≡ shape_of about.sheet →
    loc_place (scene_at about table frames).known vars loc ≡ Some n → HoldsAs about.shape (holds_references about.sheet loc.name) n
loc_holds about table frames vars loc n fits is =
    let h = place_stands about.sheet (class_of loc.who) about.sheet.locs loc.name (who_value (scene_at about table frames).known vars loc.who) n is in
    (_, ap (λ (s : Shape). slice_get s.places n) fits ∙ h.3, ap (option_map (λ (l : LocName). is_mem l.kind)) h.1)

pub loc_there : (about : About) (table : Table) (frames : List Frame) (vars : Vars) (loc : Loc) (o : Option ℕ) → about.shape ≡ shape_of about.sheet →
    o ≡ loc_place (scene_at about table frames).known vars loc → IfSome o (λ n. HoldsAs about.shape (holds_references about.sheet loc.name) n)
loc_there about table frames vars loc None fits is = tt
loc_there about table frames vars loc (Some n) fits is = loc_holds about table frames vars loc n fits (sym is)
