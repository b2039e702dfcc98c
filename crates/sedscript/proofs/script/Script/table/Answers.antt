use Rattle.std.proofs.Common.{◌≡◌, ◌∙◌, ◌<◌, ap, sym, Some, List, ℕ, length, slice_get, map, option_map, Vec, Global}
use Rattle.std.proofs.Common.{get_or, subst}
use Rattle.std.proofs.lemmas.List.{length-map}
use Rattle.std.proofs.lemmas.Option.{slice_get-map, slice_get-get_or}
use Rattle.sedscript.specs.Program.{Program}
use Rattle.sedscript.proofs.script.Script.table.Goals as goal

-- what holds of the bytes of each list holds of the one that is lent
lent_whole : (ts : List (Vec ℕ Global)) (k : ℕ) (v : Vec ℕ Global) (bytes : List ℕ) → k < length (map (λ (t : Vec ℕ Global). t.items) ts) → v ≡ get_or ts k v → bytes ≡ v.items →
    ((j : ℕ) (t : List ℕ) → slice_get (map (λ (t : Vec ℕ Global). t.items) ts) j ≡ Some t → length t ≡ 256) → length bytes ≡ 256
lent_whole ts k v bytes inside is lent each =
    let here : k < length ts = subst (λ (n : ℕ). k < n) (length-map ts (λ (t : Vec ℕ Global). t.items)) inside in
    ap (λ (b : List ℕ). length b) lent ∙ ap (λ (v : Vec ℕ Global). length v.items) is ∙
    each k _ (slice_get-map (λ (t : Vec ℕ Global). t.items) ts k ∙ ap (option_map (λ (t : Vec ℕ Global). t.items)) (slice_get-get_or ts k v here))

pub returns-clause-whole : goal.returns-clause-whole
returns-clause-whole c =
    lent_whole c.self.inside.named.operands.tables.items c.args.k c.index.result.now c.deref.result.now
    (subst (λ (p : Program). c.args.k < length p.tables) (sym c.self.view_is) c.requires) c.index.ensures c.deref.ensures.value c.self.invariant.tables
