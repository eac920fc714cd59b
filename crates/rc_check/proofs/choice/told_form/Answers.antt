use Rattle.std.proofs.Common.{◌≡◌, false, sym, rules}
use Rattle.rc_form.specs.Form.{tree_of, trees_of, packed}
use Rattle.rc_check.specs.Head.{wants_second, begin_with_word}
use Rattle.rc_check.proofs.Heads.{none_told, none_told_by}
use Rattle.rc_check.proofs.choice.told_form.Goals as goal

pub returns-then-not-wants_second : goal.returns-then-not-wants_second
returns-then-not-wants_second c =
    let others = packed (trees_of c.args.others.now) in
    let not_wanted : wants_second c.args.head ≡ false = search rules in
    sym (none_told c.args.place c.args.head (tree_of c.args.first.now) others not_wanted c.requires.head)

pub returns-then-not-begin_with_word : goal.returns-then-not-begin_with_word
returns-then-not-begin_with_word c =
    let others = packed (trees_of c.args.others.now) in
    let no_word : begin_with_word others ≡ false = search rules in
    sym (none_told_by c.args.place (tree_of c.args.first.now) others no_word)
