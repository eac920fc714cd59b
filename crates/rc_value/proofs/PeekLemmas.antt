-- Cards that are shown, one after the other, and where that leads.
use Rattle.std.proofs.Common.{◌≡◌, ℕ, zero, suc, ◌+◌, ◌<◌, List, [], ◌∷◌, length, drop, get_or, sym, ap, ◌∙◌, arith}
use Rattle.std.specs.Prelude.{fold}
use Rattle.rc_sheet_spec.specs.Sheet.{Class, Who, CollExpr, peek}
use Rattle.rc_sheet_spec.specs.Naming.{class_of}
use Rattle.rc_play_spec.specs.Shape.{Shape}
use Rattle.rc_play_spec.specs.Scene.{CardValue}
use Rattle.rc_play_spec.specs.Table.{Table}
use Rattle.rc_play_spec.specs.Value.{who_value, coll_value}
use Rattle.rc_play_spec.specs.Effects.{is_named, show_card, with_table}
use Rattle.rc_table.specs.Laid.{Laid, relaid}
use Rattle.rc_rules.specs.declared.control.Frame.{Frame}
use Rattle.rc_value.specs.declared.cards.Card.{Card}
use Rattle.rc_value.specs.Cards.{value_seen, values_seen}
use Rattle.rc_value.specs.declared.context.Context.{Context}
use Rattle.rc_value.specs.Context.{scene_in}
use Rattle.rc_value.specs.Point.{point_of}
use Rattle.rc_value.specs.Leads.{LeadsTo}

module _ (shape : Shape) (class : Class) (owner : ℕ) where
  abbrev show : Table → CardValue → Table
  show = show_card shape (is_named shape class owner)

  shown_from : (cards : List Card) (k : ℕ) (other : Card) (now mid last : Table) → k < length cards →
      mid ≡ show now (value_seen (get_or cards k other)) → fold show now (values_seen (drop k cards)) ≡ last →
      fold show mid (values_seen (drop (k + 1) cards)) ≡ last
  shown_from [] k other now mid last lt one rest = absurd (omega (arith, lt))
  shown_from (card ∷ cards) zero other now mid last lt one rest = ap (λ t. fold show t (values_seen cards)) one ∙ rest
  shown_from (card ∷ cards) (suc k) other now mid last lt one rest =
      let two : suc k + 1 ≡ suc (k + 1) = omega arith in
      ap (λ n. fold show mid (values_seen (drop n (card ∷ cards)))) two
      ∙ shown_from cards k other now mid last (omega (arith, lt)) one rest

  -- one card more
  pub one_shown : (cards : List Card) (k : ℕ) (other : Card) (now after : Laid) (last : Table) → k < length cards → now.shape ≡ shape →
      after ≡ relaid now (show_card now.shape (is_named now.shape class owner) now.table (value_seen (get_or cards k other))) →
      fold show now.table (values_seen (drop k cards)) ≡ last → fold show after.table (values_seen (drop (k + 1) cards)) ≡ last
  one_shown cards k other now after last lt same shown rest =
      let card = value_seen (get_or cards k other) in
      shown_from cards k other now.table after.table last lt
      (ap (λ (l : Laid). l.table) shown ∙ ap (λ s. show_card s (is_named s class owner) now.table card) same) rest

-- these cards are shown to whom an effect names
pub shown_leads : (context : Context) (before after : Laid) (frames : List Frame) (cards : CollExpr) (who : Who) (class : Class) (owner : ℕ)
    (values : List CardValue) → before.shape ≡ context.about.now.shape → class ≡ class_of who →
    owner ≡ who_value (scene_in context before frames).known context.scope.now who →
    values ≡ coll_value (scene_in context before frames) context.scope.now cards →
    after ≡ relaid before (fold (show_card before.shape (is_named before.shape class owner)) before.table values) →
    LeadsTo context (peek cards who) before frames after frames
shown_leads context before after frames cards who class owner values same classes owners these is dealing state =
    let shape = context.about.now.shape in
    let now = before.table in
    let table = ap (λ (l : Laid). l.table) is
    ∙ ap (λ s. fold (show_card s (is_named s class owner)) now values) same
    ∙ ap (λ k. fold (show_card shape (is_named shape k owner)) now values) classes
    ∙ ap (λ n. fold (show_card shape (is_named shape (class_of who) n)) now values) owners
    ∙ ap (λ cs. fold (show_card shape (is_named shape (class_of who) (who_value (scene_in context before frames).known context.scope.now who))) now cs) these in
    ap (λ t. with_table (point_of before frames state) t) (sym table)
