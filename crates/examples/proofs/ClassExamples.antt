-- The character classes of the POSIX locale (XBD 7.3.1) as lists of a bracket expression, computed by the definition:
-- all bytes of each. Bytes from 128 on are in none (this project's own).
use Rattle.std.proofs.Common.{[], ◌∷◌, false, Some, None, refl}
use Rattle.std.specs.Prelude.{codes, ◌≡◌}
use Rattle.sedre.specs.Sets.{set_of}
use Rattle.sedre.specs.Brackets.{list_at}
use Rattle.examples.proofs.ExampleWords.{members}

upper : members (list_at false None (codes "[[:upper:]]") 0) ≡ Some (codes "ABCDEFGHIJKLMNOPQRSTUVWXYZ", 11)
unfolding list_at set_of
upper = refl

lower : members (list_at false None (codes "[[:lower:]]") 0) ≡ Some (codes "abcdefghijklmnopqrstuvwxyz", 11)
unfolding list_at set_of
lower = refl

alpha : members (list_at false None (codes "[[:alpha:]]") 0) ≡ Some (codes "ABCDEFGHIJKLMNOPQRSTUVWXYZabcdefghijklmnopqrstuvwxyz", 11)
unfolding list_at set_of
alpha = refl

digit : members (list_at false None (codes "[[:digit:]]") 0) ≡ Some (codes "0123456789", 11)
unfolding list_at set_of
digit = refl

alnum : members (list_at false None (codes "[[:alnum:]]") 0) ≡ Some (codes "0123456789ABCDEFGHIJKLMNOPQRSTUVWXYZabcdefghijklmnopqrstuvwxyz", 11)
unfolding list_at set_of
alnum = refl

xdigit : members (list_at false None (codes "[[:xdigit:]]") 0) ≡ Some (codes "0123456789ABCDEFabcdef", 12)
unfolding list_at set_of
xdigit = refl

blank : members (list_at false None (codes "[[:blank:]]") 0) ≡ Some (codes "\t ", 11)
unfolding list_at set_of
blank = refl

space : members (list_at false None (codes "[[:space:]]") 0) ≡ Some (9 ∷ 10 ∷ 11 ∷ 12 ∷ 13 ∷ 32 ∷ [], 11)
unfolding list_at set_of
space = refl

cntrl : members (list_at false None (codes "[[:cntrl:]]") 0) ≡ Some (0 ∷ 1 ∷ 2 ∷ 3 ∷ 4 ∷ 5 ∷ 6 ∷ 7 ∷ 8 ∷ 9 ∷ 10 ∷ 11 ∷ 12 ∷ 13 ∷ 14 ∷ 15 ∷ 16 ∷ 17 ∷ 18 ∷ 19 ∷ 20 ∷ 21 ∷ 22 ∷ 23 ∷ 24 ∷ 25 ∷ 26 ∷ 27 ∷ 28 ∷ 29 ∷ 30 ∷ 31 ∷ 127 ∷ [], 11)
unfolding list_at set_of
cntrl = refl

graph : members (list_at false None (codes "[[:graph:]]") 0) ≡ Some (codes "!\"#$%&'()*+,-./0123456789:;<=>?@ABCDEFGHIJKLMNOPQRSTUVWXYZ[\\]^_`abcdefghijklmnopqrstuvwxyz{|}~", 11)
unfolding list_at set_of
graph = refl

print : members (list_at false None (codes "[[:print:]]") 0) ≡ Some (codes " !\"#$%&'()*+,-./0123456789:;<=>?@ABCDEFGHIJKLMNOPQRSTUVWXYZ[\\]^_`abcdefghijklmnopqrstuvwxyz{|}~", 11)
unfolding list_at set_of
print = refl

punct : members (list_at false None (codes "[[:punct:]]") 0) ≡ Some (codes "!\"#$%&'()*+,-./:;<=>?@[\\]^_`{|}~", 11)
unfolding list_at set_of
punct = refl
