-- What `==` says of two clients, and of lists of them.
use Rattle.std.proofs.Common.{◌≡◌, ◌&&◌, ◌==◌, Bool, true, false, List, refl, sym, ap, ◌∙◌}
use Rattle.std.specs.Bool.{Decides}
use Rattle.std.specs.Cmp.Lexicographic.{pointwise}
use Rattle.std.specs.List.{Contains, IsAnyAnswer}
use Rattle.std.specs.Prelude.{nat_eq}
use Rattle.std.proofs.lemmas.Bool.{eqb-true, eq-eqb}
use Rattle.std.proofs.lemmas.List.Elements.{Decides-contains, contains_decides}
use Rattle.std.proofs.lemmas.Slice.Eq.{bytes_eq-Decides, slice_eq-Decides}
use mathlib.Core.Bool.{beq}
use Rattle.kfs_model.specs.Access.{Client}

both : (p q : Bool) → (p && q) ≡ true → (p ≡ true) × (q ≡ true)
both true q is = (refl, is)
both false q is = cc

all_of : (p q : Bool) → p ≡ true → q ≡ true → (p && q) ≡ true
all_of p q first second = ap (λ t. t && q) first ∙ second

same_bool : (p q : Bool) → beq p q ≡ true → p ≡ q
same_bool true true is = refl
same_bool true false is = cc
same_bool false true is = cc
same_bool false false is = refl

bool_same : (p : Bool) → beq p p ≡ true
bool_same true = refl
bool_same false = refl

abbrev are_equal : (a b : Client) → Bool
are_equal a b = (a.number == b.number) && ((a.uid == b.uid) && ((a.gid == b.gid) && (pointwise nat_eq a.groups b.groups && (beq a.privileged b.privileged && ((a.first == b.first) && (a.last == b.last))))))

one_client : (a b : Client) → are_equal a b ≡ true → a ≡ b
one_client a b is =
    let (number, rest) = both (a.number == b.number) _ is in
    let (uid, rest) = both (a.uid == b.uid) _ rest in
    let (gid, rest) = both (a.gid == b.gid) _ rest in
    let (groups, rest) = both (pointwise nat_eq a.groups b.groups) _ rest in
    let (privileged, rest) = both (beq a.privileged b.privileged) _ rest in
    let (first, last) = both (a.first == b.first) _ rest in
    let same_number = eqb-true a.number b.number number in
    let same_uid = eqb-true a.uid b.uid uid in
    let same_gid = eqb-true a.gid b.gid gid in
    let same_groups = (bytes_eq-Decides a.groups b.groups).0 groups in
    let same_privileged = same_bool a.privileged b.privileged privileged in
    let same_first = eqb-true a.first b.first first in
    let same_last = eqb-true a.last b.last last in
    λ i. record { number = same_number i; uid = same_uid i; gid = same_gid i; groups = same_groups i; privileged = same_privileged i; first = same_first i; last = same_last i }

itself : (a : Client) → are_equal a a ≡ true
itself a =
    all_of (a.number == a.number) _ (eq-eqb a.number a.number refl)
    (all_of (a.uid == a.uid) _ (eq-eqb a.uid a.uid refl)
    (all_of (a.gid == a.gid) _ (eq-eqb a.gid a.gid refl)
    (all_of (pointwise nat_eq a.groups a.groups) _ ((bytes_eq-Decides a.groups a.groups).1 refl)
    (all_of (beq a.privileged a.privileged) _ (bool_same a.privileged)
    (all_of (a.first == a.first) _ (eq-eqb a.first a.first refl) (eq-eqb a.last a.last refl))))))

pub decided : (a b : Client) → Decides (are_equal a b) (a ≡ b)
decided a b = (one_client a b, λ is. ap (λ (c : Client). are_equal a c) (sym is) ∙ itself a)

-- two lists
pub lists_decided : (one other : List Client) (r : Bool) → r ≡ pointwise are_equal one other → Decides r (one ≡ other)
lists_decided one other r is = slice_eq-Decides decided one other r is

-- one of a list
pub contains_decided : (clients : List Client) (client : Client) (r : Bool) → IsAnyAnswer (λ y t. are_equal y client ≡ t) clients r → Decides r (Contains clients client)
contains_decided clients client r answer = Decides-contains clients client r (contains_decides are_equal decided clients client r answer)
