use Rattle.std.proofs.Common.{◌≡◌, ℕ, List, [], ◌∷◌, ◌++◌, codes, slice_index_or, ap₂, ◌∙◌, append_assoc, append-nil}
use Rattle.rc_base.specs.Tree.{printed, printed_behind}
use Rattle.rc_deck.specs.Tree.{groups_in}
use Rattle.rc_sheet_spec.specs.Printing.{packed, kind_form, group_forms}
use Rattle.rc_print.specs.Printing.{naming_seen}
use Rattle.rc_print.proofs.Added.{start, then, last}
use Rattle.rc_print.proofs.setup.push_deck.Goals as goal

-- the bytes of a deck's line, where o, s and e are a parenthesis that opens, a space and a parenthesis that closes
deck_bytes : (o s e create deck game kind name groups : List ℕ)
    → (((((((o ++ (create ++ (s ++ (deck ++ (s ++ (o ++ game)))))) ++ s) ++ kind) ++ s) ++ name) ++ (e ++ (s ++ (o ++ deck))))
    ++ groups) ++ (e ++ e)
    ≡ o ++ ((create ++ (s ++ (deck ++ (s ++ ((o ++ ((game ++ (s ++ (kind ++ (s ++ (name ++ []))))) ++ e))
    ++ (s ++ ((o ++ ((deck ++ groups) ++ e)) ++ []))))))) ++ e)
deck_bytes o s e create deck game kind name groups = simp (append_assoc, append-nil)

pub returns : goal.returns
returns c =
    let sheet = c.args.sheet.now in
    let line = c.args.line.now in
    let kind : List ℕ = printed (kind_form (naming_seen sheet) line.loc) in
    let name : List ℕ = slice_index_or sheet.names.locs.items line.loc [] in
    let groups : List ℕ = printed_behind (packed (group_forms (naming_seen sheet) (groups_in line.tree.groups.items))) in
    let is_name : c.push_named.new.out.bytes.items ≡ c.space-2.new.self.bytes.items ++ name =
    c.in_ok-push_named.ensures ∙ ap₂ (λ words n. c.space-2.new.self.bytes.items
    ++ slice_index_or words n []) c.deref.ensures.value c.from.ensures in
    let opened = then (40 ∷ codes "create deck (game") (start c.args.out.now.bytes.items) c.in_ok-open.ensures in
    let first = then kind (then (32 ∷ []) opened c.in_ok-space.ensures) c.in_ok-push_kind.ensures in
    let second = then name (then (32 ∷ []) first c.in_ok-space-2.ensures) is_name in
    let third = then groups (then (codes ") (deck") second c.in_ok-keyword.ensures) c.in_ok-push_groups.ensures in
    last _ (codes "))") _ c.keyword-2.result third c.keyword-2.ensures
    (deck_bytes (40 ∷ []) (32 ∷ []) (41 ∷ []) (codes "create") (codes "deck") (codes "game") kind name groups)
