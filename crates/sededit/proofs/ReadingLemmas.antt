-- The text of a script, made part by part.
use Rattle.std.proofs.Common.{◌≡◌, ◌∙◌, ℕ, List, [], ◌∷◌, Option, Some, None, refl, string_bytes}
use Rattle.std.proofs.KnownBytes.{Keeps-refl, Keeps-trans}
use Rattle.sedscript.specs.Script.{with_part}
use Rattle.sedfiles.specs.Files.{FilesAhead, KeepsFiles, OnlyReadsScripts, WholeFiles}
use Rattle.sededit.specs.Types.{File, Part, Script}
use Rattle.sededit.specs.Program.{MakesText}

-- files that give the same make the same text
pub MakesText-same : (f g : WholeFiles) (before : List ℕ) (parts : List Part) (whole : List ℕ) → ((name : List ℕ) → g name ≡ f name) →
    MakesText g before parts whole → MakesText f before parts whole
MakesText-same f g before [] whole same h = h
MakesText-same f g before (Script s ∷ parts) whole same h = MakesText-same f g (with_part before (string_bytes s)) parts whole same h
MakesText-same f g before (File s ∷ parts) whole same h = (h.0, rw (same (string_bytes s)) at h.1, MakesText-same f g (with_part before h.0) parts whole same h.2)

files_kept_then : (a b c : Option (List (Option (List ℕ)))) → KeepsFiles a b → KeepsFiles b c → KeepsFiles a c
files_kept_then None b c p q = tt
files_kept_then (Some x) b c p q = let q' = rw p at q in q'

pub OnlyReads-then : {I : Type 0} (current : I → Option (List ℕ)) (ahead : I → FilesAhead)
    (scripts : I → WholeFiles) (refusals failures : I → ℕ) (reference : I → List ℕ) (a b c : I) →
    OnlyReadsScripts current ahead scripts refusals failures reference a b → OnlyReadsScripts current ahead scripts refusals failures reference b c →
    OnlyReadsScripts current ahead scripts refusals failures reference a c
OnlyReads-then current ahead scripts refusals failures reference a b c h k = record {
  same_current = Keeps-trans _ _ _ h.same_current k.same_current;
  same_ahead = λ names. files_kept_then _ _ _ (h.same_ahead names) (k.same_ahead names);
  texts = λ name. k.texts name ∙ h.texts name;
  refused = k.refused ∙ h.refused;
  failed = k.failed ∙ h.failed;
  same_reference = k.same_reference ∙ h.same_reference;
}

files_kept : (a : Option (List (Option (List ℕ)))) → KeepsFiles a a
files_kept None = tt
files_kept (Some x) = refl

pub OnlyReads-none : {I : Type 0} (current : I → Option (List ℕ)) (ahead : I → FilesAhead)
    (scripts : I → WholeFiles) (refusals failures : I → ℕ) (reference : I → List ℕ) (a : I) → OnlyReadsScripts current ahead scripts refusals failures reference a a
OnlyReads-none current ahead scripts refusals failures reference a = record {
  same_current = Keeps-refl _;
  same_ahead = λ names. files_kept _;
  texts = λ name. refl;
  refused = refl;
  failed = refl;
  same_reference = refl;
}
