use Rattle.std.proofs.Common.{◌∙◌, ap, sym, Some, option_map, map, [], refl}
use Rattle.std.proofs.lemmas.Bool.{eq-eqb, false≢true}
use Rattle.std.proofs.lemmas.List.{append-nil}
use Rattle.rc_deck.specs.Points.{entry_of}
use Rattle.rc_resolve.specs.Reading.{read_all_entries}
use Rattle.rc_resolve.proofs.GroupLemmas.{read_entries_of}
use Rattle.rc_resolve.proofs.LoopLemmas.{read_more, read_end}
use Rattle.rc_resolve.proofs.BuildLemmas.{reads_entries, onto_entries}
use Rattle.rc_resolve.proofs.points_reading.read_entries.Goals as goal

pub loop-form-preserved : goal.loop-form-preserved
loop-form-preserved g c =
    let found = sym (ap (option_map entry_of) c.in-Some.is) ∙ c.in_ok-entry.ensures in
    read_more (reads_entries (g.N.Numbers.words c.args.names.now)) c.as_slice-items.result.now c.loop-form.form-index
    c.form-item.result c.loop-form.entries.items _ c.in-Some.entry
    c.loop-form-test.true c.form-item.is found c.in_ok-push-in-Some.ensures.items
    ∙ c.loop-form.invariant

pub returns : goal.returns
returns g c =
    let names = g.N.Numbers.words c.args.names.now in
    let entries = c.loop-form.entries.items in
    let e = read_entries_of names c.args.entries.now c.in-List.items c.in-List.span c.as_slice-items.result.now
    c.in-List.is c.as_slice-items.ensures.trees
    (λ none. false≢true (c.if-is_empty.ensures ∙ eq-eqb _ _ none)) in
    ap (λ list. Some list) (sym (append-nil (map entry_of entries)))
    ∙ sym (read_end (read_all_entries names) (onto_entries entries) [] c.as_slice-items.result.now
    c.loop-form.form-index refl c.loop-form-test.false)
    ∙ c.loop-form.invariant
    ∙ sym e
