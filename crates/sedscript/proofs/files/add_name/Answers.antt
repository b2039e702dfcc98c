use Rattle.std.proofs.Common.{◌≡◌, ◌+◌, map, length, arith, ℕ, Vec, Global}
use Rattle.std.proofs.lemmas.List.{length-map}
use Rattle.sedscript.proofs.FileTables.{name_kept, name_added, items_pushed}
use Rattle.sedscript.proofs.files.add_name.Goals as goal

pub returns-then-is_numbered-clause-added : goal.returns-then-is_numbered-clause-added
returns-then-is_numbered-clause-added c = λ ns are.
    let both = name_kept c.args.first ns (map (λ (n : Vec ℕ Global). n.items) c.args.files.now.names.items) c.in-Some.name.now c.args.files.now.numbers
    c.is_numbered.result c.is_numbered.ensures c.if-is_numbered.true are.names_are are.numbered_so in
    rw c.in-Some.is (record { names_are = both.0; numbered_so = both.1 })

pub returns-in-Ok-clause-added : goal.returns-in-Ok-clause-added
returns-in-Ok-clause-added c = λ ns are.
    let count : c.args.first + c.len.result ≡ c.args.first + length (map (λ (n : Vec ℕ Global). n.items) c.args.files.now.names.items) =
    omega (arith, c.len.ensures, c.args.files.now.names.ok, length-map c.args.files.now.names.items (λ (n : Vec ℕ Global). n.items)) in
    let both = name_added c.args.first (c.args.first + c.len.result) ns (map (λ (n : Vec ℕ Global). n.items) c.args.files.now.names.items) (map (λ (n : Vec ℕ Global). n.items) c.push.new.self.items) c.in-Some.name.now
    c.args.files.now.numbers c.insert.new.self c.is_numbered.result c.is_numbered.ensures c.if-is_numbered.false
    count
    (items_pushed c.args.files.now.names.items c.push.new.self.items c.in_ok-to_vec.field-0 c.in-Some.name.now c.in_ok-push.ensures.items (c.in_ok-to_vec.ensures.items_if_clones_equal (λ x y h. h)))
    c.in-Ok.ensures.updates are.names_are are.numbered_so in
    rw c.in-Some.is (record { names_are = both.0; numbered_so = both.1 })
