use Rattle.std.proofs.Common.{◌≡◌, [], ◌++◌, map, drop, sym, ap, ◌∙◌, append_assoc, append-nil, arith}
use Rattle.std.proofs.lemmas.List.{drop_all}
use Rattle.rc_base.specs.Tree.{printed_behind}
use Rattle.rc_deck.proofs.EachLemmas.{on_ok}
use Rattle.rc_sheet_spec.specs.Printing.{packed, team_form}
use Rattle.rc_print.proofs.setup.push_teams.Goals as goal

pub returns : goal.returns
returns c =
    let items = c.deref-team-items.result.now in
    let done : drop c.loop-team.team-index items ≡ [] = drop_all c.loop-team.team-index items (omega arith) in
    let all : c.loop-team.out.bytes.items
    ≡ c.open.new.self.bytes.items ++ printed_behind (packed (map team_form (map (λ players. players.items) items))) =
    sym (append-nil c.loop-team.out.bytes.items)
    ∙ ap (λ teams. c.loop-team.out.bytes.items ++ printed_behind (packed
    (map team_form (map (λ players. players.items) teams)))) (sym done)
    ∙ c.loop-team.invariant in
    on_ok c.close.result c.close.ensures
    (λ closed. rw (c.in-Some.is, closed, all, c.deref-team-items.ensures.value, c.in_ok-open.ensures, c.in_ok-space.ensures)
    (simp append_assoc))
