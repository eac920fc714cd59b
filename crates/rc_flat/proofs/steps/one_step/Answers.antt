use Rattle.std.proofs.Common.{◌≡◌, ℕ, ◌<◌, List, length, slice_get, slice_index_or, Some, option_map, ap, sym, ◌∙◌, rules}
use Rattle.std.proofs.lemmas.Option.{slice_get-get_or, slice_get-map}
use Rattle.rc_code.specs.declared.code.Instruction.{Instruction}
use Rattle.rc_code.specs.Meaning.{items_from}
use Rattle.rc_code.specs.Seen.{instruction_seen, list_seen}
use Rattle.rc_code.proofs.LeftLemmas.{first_there}
use Rattle.rc_flat.proofs.steps.one_step.Goals as goal

-- the instruction that was found is the one that is next
seen_there : (code : List Instruction) (n next : ℕ) (i : Instruction) → n ≡ next → n < length code → i ≡ slice_index_or code n i
    → slice_get (list_seen code) next ≡ Some (instruction_seen i)
seen_there code n next i same lt is =
    ap (slice_get (list_seen code)) (sym same) ∙ slice_get-map instruction_seen code n
    ∙ ap (option_map instruction_seen) (slice_get-get_or code n i lt ∙ ap Some (sym is))

pub open_next-requires-clause-here : goal.open_next-requires-clause-here
open_next-requires-clause-here g c =
    let found = c.in-Some.ensures.lookup in
    let lt : c.next.result < length c.args.code.now = search rules in
    let is : c.in-Some.instruction.now ≡ slice_index_or c.args.code.now c.next.result c.in-Some.instruction.now = search rules in
    let there = seen_there c.args.code.now c.next.result c.args.state.now.place.next c.in-Some.instruction.now c.next.ensures lt is in
    search rules

pub choice_next-requires-clause-here : goal.choice_next-requires-clause-here
choice_next-requires-clause-here g c =
    let found = c.in-Some.ensures.lookup in
    let lt : c.next.result < length c.args.code.now = search rules in
    let is : c.in-Some.instruction.now ≡ slice_index_or c.args.code.now c.next.result c.in-Some.instruction.now = search rules in
    let there = seen_there c.args.code.now c.next.result c.args.state.now.place.next c.in-Some.instruction.now c.next.ensures lt is in
    search rules

pub leave-requires-in-Simple-clause-end : goal.leave-requires-in-Simple-clause-end
leave-requires-in-Simple-clause-end g c =
    let found = c.in-Some.ensures.lookup in
    let lt : c.next.result < length c.args.code.now = search rules in
    let is : c.in-Some.instruction.now ≡ slice_index_or c.args.code.now c.next.result c.in-Some.instruction.now = search rules in
    let there = seen_there c.args.code.now c.next.result c.args.state.now.place.next c.in-Some.instruction.now c.next.ensures lt is in
    ap items_from (first_there (list_seen c.args.code.now) c.args.state.now.place.next _ (there ∙ ap (λ i. Some (instruction_seen i)) c.in-Simple.is))

pub leave-requires-in-If-clause-end : goal.leave-requires-in-If-clause-end
leave-requires-in-If-clause-end g c =
    let found = c.in-Some.ensures.lookup in
    let lt : c.next.result < length c.args.code.now = search rules in
    let is : c.in-Some.instruction.now ≡ slice_index_or c.args.code.now c.next.result c.in-Some.instruction.now = search rules in
    let there = seen_there c.args.code.now c.next.result c.args.state.now.place.next c.in-Some.instruction.now c.next.ensures lt is in
    ap items_from (first_there (list_seen c.args.code.now) c.args.state.now.place.next _ (there ∙ ap (λ i. Some (instruction_seen i)) c.in-If.is))

pub leave-requires-in-Repeat-clause-end : goal.leave-requires-in-Repeat-clause-end
leave-requires-in-Repeat-clause-end g c =
    let found = c.in-Some.ensures.lookup in
    let lt : c.next.result < length c.args.code.now = search rules in
    let is : c.in-Some.instruction.now ≡ slice_index_or c.args.code.now c.next.result c.in-Some.instruction.now = search rules in
    let there = seen_there c.args.code.now c.next.result c.args.state.now.place.next c.in-Some.instruction.now c.next.ensures lt is in
    ap items_from (first_there (list_seen c.args.code.now) c.args.state.now.place.next _ (there ∙ ap (λ i. Some (instruction_seen i)) c.in-Repeat.is))

pub leave-requires-in-Each-clause-end : goal.leave-requires-in-Each-clause-end
leave-requires-in-Each-clause-end g c =
    let found = c.in-Some.ensures.lookup in
    let lt : c.next.result < length c.args.code.now = search rules in
    let is : c.in-Some.instruction.now ≡ slice_index_or c.args.code.now c.next.result c.in-Some.instruction.now = search rules in
    let there = seen_there c.args.code.now c.next.result c.args.state.now.place.next c.in-Some.instruction.now c.next.ensures lt is in
    ap items_from (first_there (list_seen c.args.code.now) c.args.state.now.place.next _ (there ∙ ap (λ i. Some (instruction_seen i)) c.in-Each.is))

pub leave-requires-in-End-clause-end : goal.leave-requires-in-End-clause-end
leave-requires-in-End-clause-end g c =
    let found = c.in-Some.ensures.lookup in
    let lt : c.next.result < length c.args.code.now = search rules in
    let is : c.in-Some.instruction.now ≡ slice_index_or c.args.code.now c.next.result c.in-Some.instruction.now = search rules in
    let there = seen_there c.args.code.now c.next.result c.args.state.now.place.next c.in-Some.instruction.now c.next.ensures lt is in
    ap items_from (first_there (list_seen c.args.code.now) c.args.state.now.place.next _ (there ∙ ap (λ i. Some (instruction_seen i)) c.in-End.is))
