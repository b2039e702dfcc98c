use Rattle.std.proofs.Common.{◌++◌, ◌∷◌, [], ap, ◌∙◌, List, length}
use Rattle.std.proofs.lemmas.List.Elements.{All-push, All-same}
use Rattle.sedscript.specs.declared.items.Item.{Item}
use Rattle.sedscript.specs.Packed.{PacksItem}
use Rattle.sedscript.proofs.Packing.{items_more, all_kept}
use Rattle.sedscript.proofs.packed.Items.push.Goals as goal

pub invariant_of-self : goal.invariant_of-self
invariant_of-self c = all_kept c.self.inside.listed_addresses.items c.keep.new.listed_addresses.items c.self.inside.listed_arguments.items c.keep.new.listed_arguments.items c.self.inside.kept.items c.keep.ensures.listed_addresses c.keep.ensures.listed_arguments c.self.invariant

pub returns : goal.returns
returns c =
    items_more c.self.inside.listed_addresses.items c.keep.new.listed_addresses.items c.self.inside.listed_arguments.items c.keep.new.listed_arguments.items c.self.inside.kept.items c.push.new.self.items c.in_ok-kept.kept c.args.item
    c.keep.ensures.listed_addresses c.keep.ensures.listed_arguments c.self.invariant c.in_ok-push.ensures.items c.in_ok-kept.ensures.kept.1
    ∙ ap (λ (is : List Item). is ++ c.args.item ∷ []) c.self.view_is

pub invariant_of-self-in_err-push : goal.invariant_of-self-in_err-push
invariant_of-self-in_err-push c =
    All-same (PacksItem (length c.keep.new.listed_addresses.items) (length c.keep.new.listed_arguments.items)) c.push.new.self.items c.self.inside.kept.items c.in_err-push.ensures.items (all_kept c.self.inside.listed_addresses.items c.keep.new.listed_addresses.items c.self.inside.listed_arguments.items c.keep.new.listed_arguments.items c.self.inside.kept.items c.keep.ensures.listed_addresses c.keep.ensures.listed_arguments c.self.invariant)

pub invariant_of-self-2 : goal.invariant_of-self-2
invariant_of-self-2 c =
    All-same (PacksItem (length c.keep.new.listed_addresses.items) (length c.keep.new.listed_arguments.items)) c.push.new.self.items (c.self.inside.kept.items ++ c.in_ok-kept.kept ∷ []) c.in_ok-push.ensures.items
    (All-push (PacksItem (length c.keep.new.listed_addresses.items) (length c.keep.new.listed_arguments.items)) c.self.inside.kept.items c.in_ok-kept.kept (all_kept c.self.inside.listed_addresses.items c.keep.new.listed_addresses.items c.self.inside.listed_arguments.items c.keep.new.listed_arguments.items c.self.inside.kept.items c.keep.ensures.listed_addresses c.keep.ensures.listed_arguments c.self.invariant) c.in_ok-kept.ensures.kept.0)
