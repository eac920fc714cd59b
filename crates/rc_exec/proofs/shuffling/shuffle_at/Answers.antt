use Rattle.std.proofs.Common.{◌≡◌, length, sym, ap, ◌∙◌, subst, arith}
use Rattle.std.specs.List.Sorted.{IsPermutation}
use Rattle.std.proofs.lemmas.Grind.{common_steps}
use Rattle.std.proofs.lemmas.List.FromFn.{length-range_with_len}
use Rattle.rc_base.specs.Numbers.{below}
use Rattle.rc_play_spec.specs.Table.{list_at, reorder}
use Rattle.rc_table.specs.Laid.{Laid, relaid}
use Rattle.rc_undo.specs.Undo.{Kept}
use Rattle.rc_value.proofs.Orders.{shuffled}
use Rattle.rc_exec.proofs.ShuffleLemmas.{one_shuffle}
use Rattle.rc_exec.proofs.shuffling.shuffle_at.Goals as goal

pub reorder-requires-clause-order : goal.reorder-requires-clause-order
reorder-requires-clause-order g c =
    let size = length (list_at c.args.board.now.laid.table c.args.at) in
    let order = (g.D.Dealer.dealing c.args.dealer.now).order (g.D.Dealer.state c.args.dealer.now) in
    let same : c.as_slice.result.now ≡ c.shuffle.new.list = grind (arith, common_steps) in
    let h =
    shuffled order size c.as_mut_slice.result.now c.shuffle.new.list
    (c.as_mut_slice.ensures.value ∙ c.places-order.ensures ∙ ap (λ list. below (length list)) (c.list.ensures.list ∙ ap (λ (laid : Laid). list_at laid.table c.args.at) c.table.ensures)) c.shuffle.ensures.order c.shuffle.ensures.taken in
    subst (IsPermutation (below size)) (sym same) h.1

pub returns-in-Ok-clause-table : goal.returns-in-Ok-clause-table
returns-in-Ok-clause-table g c =
    let table = c.args.board.now.laid in
    let size = length (list_at table.table c.args.at) in
    let order = (g.D.Dealer.dealing c.args.dealer.now).order (g.D.Dealer.state c.args.dealer.now) in
    let same : c.as_slice.result.now ≡ c.shuffle.new.list = grind (arith, common_steps) in
    let h =
    shuffled order size c.as_mut_slice.result.now c.shuffle.new.list
    (c.as_mut_slice.ensures.value ∙ c.places-order.ensures ∙ ap (λ list. below (length list)) (c.list.ensures.list ∙ ap (λ (laid : Laid). list_at laid.table c.args.at) c.table.ensures)) c.shuffle.ensures.order c.shuffle.ensures.taken in
    ap (λ (k : Kept). k.laid) c.in-Ok.ensures.leads ∙ ap (λ ids. relaid table (reorder c.args.at ids table.table)) (same ∙ h.0)

pub returns-in-Ok-clause-next : goal.returns-in-Ok-clause-next
returns-in-Ok-clause-next g c =
    let size = length (list_at c.args.board.now.laid.table c.args.at) in
    let places = c.as_mut_slice.ensures.value ∙ c.places-order.ensures ∙ ap (λ list. below (length list)) (c.list.ensures.list ∙ ap (λ (laid : Laid). list_at laid.table c.args.at) c.table.ensures) in
    c.shuffle.ensures.next
    ∙ ap ((g.D.Dealer.dealing c.args.dealer.now).next (g.D.Dealer.state c.args.dealer.now)) (ap length places ∙ length-range_with_len 0 size)

pub returns-in-Err-clause-next : goal.returns-in-Err-clause-next
returns-in-Err-clause-next g c =
    let size = length (list_at c.args.board.now.laid.table c.args.at) in
    let places = c.as_mut_slice.ensures.value ∙ c.places-order.ensures ∙ ap (λ list. below (length list)) (c.list.ensures.list ∙ ap (λ (laid : Laid). list_at laid.table c.args.at) c.table.ensures) in
    c.shuffle.ensures.next
    ∙ ap ((g.D.Dealer.dealing c.args.dealer.now).next (g.D.Dealer.state c.args.dealer.now)) (ap length places ∙ length-range_with_len 0 size)

pub returns-in-Ok-clause-shuffled : goal.returns-in-Ok-clause-shuffled
returns-in-Ok-clause-shuffled g c =
    one_shuffle (g.D.Dealer.dealing c.args.dealer.now) (g.D.Dealer.state c.args.dealer.now) _
    (length (list_at c.args.board.now.laid.table c.args.at)) (returns-in-Ok-clause-next g c)

pub returns-in-Err-clause-shuffled : goal.returns-in-Err-clause-shuffled
returns-in-Err-clause-shuffled g c =
    one_shuffle (g.D.Dealer.dealing c.args.dealer.now) (g.D.Dealer.state c.args.dealer.now) _
    (length (list_at c.args.board.now.laid.table c.args.at)) (returns-in-Err-clause-next g c)
