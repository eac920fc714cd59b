use Rattle.std.proofs.Common.{length, ap, ap₂, sym, ◌∙◌, arith}
use Rattle.std.proofs.lemmas.List.{length-map}
use Rattle.rc_table.specs.Rows.{Lists}
use Rattle.rc_table.specs.RowsSeen.{list_in}
use Rattle.rc_table.proofs.RowLemmas.{lists_of}
use Rattle.rc_table.proofs.CopiedLists.{one_copied, all_copied}
use Rattle.rc_table.proofs.rows.Rows.copy_lists.Goals as goal

pub loop-at-init : goal.loop-at-init
loop-at-init c =
    record {
      room = c.copy_counts.ensures.room;
      copied = record {
        each = c.copy_counts.ensures.each;
        lengths = c.copy_counts.ensures.lengths;
        same = λ k less. absurd (omega (arith, less));
      };
    }

pub loop-at-preserved : goal.loop-at-preserved
loop-at-preserved c =
    let rows = c.other.inside.rows in
    let all = ap (λ (lists : Lists). length lists.all) c.other.view_is in
    let each = length-map rows.items (list_in c.other.inside.ids.items) in
    let long = rows.ok.0 in
    let test = c.loop-at-test.true in
    let last = c.len-at-end.ensures in
    record {
      room = ap (λ (lists : Lists). lists.room) c.copy_list.ensures ∙ c.loop-at.invariant.room;
      copied =
          one_copied c.loop-at.at c.loop-at.self.all c.args.other.now.all c.copy_list.new.self.all (omega (arith, all, each, long, test, last))
          (ap (λ (lists : Lists). lists.all) c.copy_list.ensures) c.loop-at.invariant.copied;
    }

pub copy_list-requires-clause-length : goal.copy_list-requires-clause-length
copy_list-requires-clause-length c = c.loop-at.invariant.copied.lengths c.loop-at.at

pub returns : goal.returns
returns c =
    let rows = c.other.inside.rows in
    let all = ap (λ (lists : Lists). length lists.all) c.other.view_is in
    let each = length-map rows.items (list_in c.other.inside.ids.items) in
    let long = rows.ok.0 in
    let test = c.loop-at-test.false in
    let last = c.len-at-end.ensures in
    ap₂ lists_of (all_copied c.loop-at.at c.loop-at.self.all c.args.other.now.all (omega (arith, all, each, long, test, last)) c.loop-at.invariant.copied) (c.loop-at.invariant.room ∙ sym c.requires.room)
