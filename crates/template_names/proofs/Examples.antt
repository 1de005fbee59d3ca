-- Texts that are written out, and their merged texts.
use Rattle.std.proofs.Common.{◌≡◌, codes, refl}
use Rattle.template_names.specs.Merged.{merged}

nested : merged (codes "std::map<int, foo<bar>>::at") ≡ codes "std::map<$>::at"
nested = refl

two : merged (codes "a<b>::c<d>") ≡ codes "a<$>::c<$>"
two = refl

empty : merged (codes "f<>") ≡ codes "f<$>"
empty = refl

-- no match

without_match : merged (codes "a<b") ≡ codes "a<b"
without_match = refl

inner_match : merged (codes "a<b<c>") ≡ codes "a<b<$>"
inner_match = refl

match_behind : merged (codes "a>b<c>") ≡ codes "a>b<$>"
match_behind = refl

-- operators behind their word, and arrows

shift : merged (codes "operator<<<char>") ≡ codes "operator<<<$>"
shift = refl

three_way : merged (codes "operator<=><int>") ≡ codes "operator<=><$>"
three_way = refl

member : merged (codes "operator->*<T>") ≡ codes "operator->*<$>"
member = refl

call : merged (codes "operator()<int>") ≡ codes "operator()<$>"
call = refl

inside : merged (codes "a<operator>>(b)>") ≡ codes "a<$>"
inside = refl

another_word : merged (codes "my_operator<int>") ≡ codes "my_operator<$>"
another_word = refl

apart : merged (codes "operator <int>") ≡ codes "operator <$>"
apart = refl

arrow : merged (codes "x->y<z>") ≡ codes "x->y<$>"
arrow = refl
