use Rattle.std.proofs.Common.{◌≡◌, ◌∙◌, ap, sym, true, option_map}
use Rattle.std.specs.Prelude.{codes}
use Rattle.std.proofs.lemmas.Bool.{eq-eqb, false≢true}
use Rattle.rc_form.specs.Form.{tree_of}
use Rattle.rc_deck.specs.Tree.{groups_in}
use Rattle.rc_resolve.specs.Reading.{is_word}
use Rattle.rc_resolve.proofs.GroupLemmas.{read_deck_of}
use Rattle.rc_resolve.proofs.tree_reading.read_deck.Goals as goal

pub returns-in-Some-2 : goal.returns-in-Some-2
returns-in-Some-2 g c =
    let names = g.N.Numbers.words c.args.names.now in
    let word : is_word (codes "deck") (tree_of c.in-Some.head.now) ≡ true = sym c.if-not-is_word.ensures in
    let e = read_deck_of names c.args.deck.now c.in-List.items c.in-List.span c.as_slice.result.now c.in-Some.head.now
    c.in-Some.parts.now
    c.in-List.is c.as_slice.ensures.trees c.in-Some.ensures.cases.0 word
    (λ none. false≢true (c.if-is_empty.ensures ∙ eq-eqb _ _ none)) in
    sym (ap (λ o. option_map (λ groups. groups_in groups.items) o) c.in-Some-2.is) ∙ c.in_ok-groups.ensures ∙ sym e
