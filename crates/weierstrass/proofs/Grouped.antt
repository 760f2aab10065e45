-- The sums of three points, grouped in both ways: X and Z, Y and Z are in one proportion.
-- tools/certificates/weierstrass_identities writes this file.
use Rattle.std.proofs.Common.{◌≡◌, ℕ, zero, suc, ◌^◌, ◌<◌, List, [], ◌∷◌, length, true, refl, arith}
use Rattle.algebra.proofs.Programs.{Expr, var, num, add, sub, mul, vanish, bounded_at, short}
use Rattle.weierstrass.proofs.Identities.{cubic}

-- from y3, y2, y1, x2, x3, x1, b
abbrev pub grouped : List Expr
grouped =
    mul (var 5) (var 3) ∷
    mul (var 3) (var 2) ∷
    mul (num 1) (num 1) ∷
    add (mul (var 8) (var 4)) (mul (var 6) (var 5)) ∷
    add (mul (var 9) (num 1)) (mul (var 7) (num 1)) ∷
    add (mul (var 7) (num 1)) (mul (var 6) (num 1)) ∷
    sub (var 1) (mul (var 12) (var 3)) ∷
    add (add (var 0) (var 0)) (var 0) ∷
    add (add (var 5) (var 5)) (var 5) ∷
    sub (sub (mul (var 15) (var 4)) (var 8)) (var 0) ∷
    add (add (var 0) (var 0)) (var 0) ∷
    sub (var 10) (var 8) ∷
    add (add (var 0) (var 0)) (var 0) ∷
    add (var 11) (var 5) ∷
    sub (var 12) (var 6) ∷
    sub (mul (var 11) (var 1)) (mul (var 9) (var 4)) ∷
    add (mul (var 1) (var 2)) (mul (var 3) (var 5)) ∷
    add (mul (var 11) (var 2)) (mul (var 13) (var 4)) ∷
    mul (var 2) (var 22) ∷
    mul (var 2) (var 19) ∷
    mul (var 2) (num 1) ∷
    add (mul (var 5) (var 21)) (mul (var 25) (var 4)) ∷
    add (mul (var 6) (num 1)) (mul (var 26) (var 4)) ∷
    add (mul (var 6) (num 1)) (mul (var 23) (var 5)) ∷
    sub (var 1) (mul (var 30) (var 3)) ∷
    add (add (var 0) (var 0)) (var 0) ∷
    add (add (var 5) (var 5)) (var 5) ∷
    sub (sub (mul (var 33) (var 4)) (var 8)) (var 0) ∷
    add (add (var 0) (var 0)) (var 0) ∷
    sub (var 10) (var 8) ∷
    add (add (var 0) (var 0)) (var 0) ∷
    add (var 11) (var 5) ∷
    sub (var 12) (var 6) ∷
    sub (mul (var 11) (var 1)) (mul (var 9) (var 4)) ∷
    add (mul (var 1) (var 2)) (mul (var 3) (var 5)) ∷
    add (mul (var 11) (var 2)) (mul (var 13) (var 4)) ∷
    mul (var 39) (var 40) ∷
    mul (var 38) (var 37) ∷
    mul (num 1) (num 1) ∷
    add (mul (var 42) (var 39)) (mul (var 43) (var 40)) ∷
    add (mul (var 43) (num 1)) (mul (var 44) (num 1)) ∷
    add (mul (var 42) (num 1)) (mul (var 41) (num 1)) ∷
    sub (var 1) (mul (var 48) (var 3)) ∷
    add (add (var 0) (var 0)) (var 0) ∷
    add (add (var 5) (var 5)) (var 5) ∷
    sub (sub (mul (var 51) (var 4)) (var 8)) (var 0) ∷
    add (add (var 0) (var 0)) (var 0) ∷
    sub (var 10) (var 8) ∷
    add (add (var 0) (var 0)) (var 0) ∷
    add (var 11) (var 5) ∷
    sub (var 12) (var 6) ∷
    sub (mul (var 11) (var 1)) (mul (var 9) (var 4)) ∷
    add (mul (var 1) (var 2)) (mul (var 3) (var 5)) ∷
    add (mul (var 11) (var 2)) (mul (var 13) (var 4)) ∷
    mul (var 59) (var 2) ∷
    mul (var 57) (var 2) ∷
    mul (num 1) (var 2) ∷
    add (mul (var 62) (var 4)) (mul (var 5) (var 59)) ∷
    add (mul (var 63) (var 4)) (mul (var 6) (num 1)) ∷
    add (mul (var 61) (var 5)) (mul (var 6) (num 1)) ∷
    sub (var 1) (mul (var 66) (var 3)) ∷
    add (add (var 0) (var 0)) (var 0) ∷
    add (add (var 5) (var 5)) (var 5) ∷
    sub (sub (mul (var 69) (var 4)) (var 8)) (var 0) ∷
    add (add (var 0) (var 0)) (var 0) ∷
    sub (var 10) (var 8) ∷
    add (add (var 0) (var 0)) (var 0) ∷
    add (var 11) (var 5) ∷
    sub (var 12) (var 6) ∷
    sub (mul (var 11) (var 1)) (mul (var 9) (var 4)) ∷
    add (mul (var 1) (var 2)) (mul (var 3) (var 5)) ∷
    add (mul (var 11) (var 2)) (mul (var 13) (var 4)) ∷
    sub (mul (var 38) (var 0)) (mul (var 36) (var 2)) ∷
    sub (mul (var 38) (var 1)) (mul (var 37) (var 2)) ∷
    []

-- the squares of y1, y2, y3
abbrev pub three : List Expr
three = cubic 2 3 ∷ cubic 0 3 ∷ cubic 1 3 ∷ []

pub is_short : short 3 three grouped 2 3 13 ≡ true
unfolding short
is_short = refl

unfoldable pub point : ℕ → List ℕ
point zero = 2 ^ 3246 ∷ 2 ^ 336 ∷ 2 ^ 35 ∷ []
point (suc zero) = 2 ^ 3768 ∷ 2 ^ 390 ∷ 2 ^ 41 ∷ []
point (suc (suc zero)) = 2 ^ 4125 ∷ 2 ^ 427 ∷ 2 ^ 45 ∷ []
point (suc (suc (suc zero))) = 2 ^ 4474 ∷ 2 ^ 463 ∷ 2 ^ 49 ∷ []
point (suc (suc (suc (suc zero)))) = 2 ^ 4735 ∷ 2 ^ 490 ∷ 2 ^ 52 ∷ []
point (suc (suc (suc (suc (suc zero))))) = 2 ^ 4996 ∷ 2 ^ 517 ∷ 2 ^ 55 ∷ []
point (suc (suc (suc (suc (suc (suc zero)))))) = 2 ^ 5180 ∷ 2 ^ 536 ∷ 2 ^ 57 ∷ []
point (suc (suc (suc (suc (suc (suc (suc zero))))))) = 2 ^ 5354 ∷ 2 ^ 554 ∷ 2 ^ 59 ∷ []
point (suc (suc (suc (suc (suc (suc (suc (suc zero)))))))) = 2 ^ 5528 ∷ 2 ^ 572 ∷ 2 ^ 61 ∷ []
point (suc (suc (suc (suc (suc (suc (suc (suc (suc zero))))))))) = 2 ^ 5615 ∷ 2 ^ 581 ∷ 2 ^ 62 ∷ []
point (suc (suc (suc (suc (suc (suc (suc (suc (suc (suc zero)))))))))) = 2 ^ 5789 ∷ 2 ^ 599 ∷ 2 ^ 64 ∷ []
point (suc (suc (suc (suc (suc (suc (suc (suc (suc (suc (suc zero))))))))))) = 2 ^ 5876 ∷ 2 ^ 608 ∷ 2 ^ 65 ∷ []
point (suc (suc (suc (suc (suc (suc (suc (suc (suc (suc (suc (suc zero)))))))))))) = 2 ^ 5964 ∷ 2 ^ 617 ∷ 2 ^ 66 ∷ []
point (suc (suc (suc (suc (suc (suc (suc (suc (suc (suc (suc (suc (suc c))))))))))))) = 2 ^ 3246 ∷ 2 ^ 336 ∷ 2 ^ 35 ∷ []

vanishes-0 : vanish 3 three grouped 2 (0 ∷ point 0) ≡ true
unfolding vanish point
vanishes-0 = refl

bounded-0 : bounded_at 3 three grouped 2 0 (point 0) ≡ true
unfolding bounded_at point
bounded-0 = refl

vanishes-1 : vanish 3 three grouped 2 (1 ∷ point 1) ≡ true
unfolding vanish point
vanishes-1 = refl

bounded-1 : bounded_at 3 three grouped 2 1 (point 1) ≡ true
unfolding bounded_at point
bounded-1 = refl

vanishes-2 : vanish 3 three grouped 2 (2 ∷ point 2) ≡ true
unfolding vanish point
vanishes-2 = refl

bounded-2 : bounded_at 3 three grouped 2 2 (point 2) ≡ true
unfolding bounded_at point
bounded-2 = refl

vanishes-3 : vanish 3 three grouped 2 (3 ∷ point 3) ≡ true
unfolding vanish point
vanishes-3 = refl

bounded-3 : bounded_at 3 three grouped 2 3 (point 3) ≡ true
unfolding bounded_at point
bounded-3 = refl

vanishes-4 : vanish 3 three grouped 2 (4 ∷ point 4) ≡ true
unfolding vanish point
vanishes-4 = refl

bounded-4 : bounded_at 3 three grouped 2 4 (point 4) ≡ true
unfolding bounded_at point
bounded-4 = refl

vanishes-5 : vanish 3 three grouped 2 (5 ∷ point 5) ≡ true
unfolding vanish point
vanishes-5 = refl

bounded-5 : bounded_at 3 three grouped 2 5 (point 5) ≡ true
unfolding bounded_at point
bounded-5 = refl

vanishes-6 : vanish 3 three grouped 2 (6 ∷ point 6) ≡ true
unfolding vanish point
vanishes-6 = refl

bounded-6 : bounded_at 3 three grouped 2 6 (point 6) ≡ true
unfolding bounded_at point
bounded-6 = refl

vanishes-7 : vanish 3 three grouped 2 (7 ∷ point 7) ≡ true
unfolding vanish point
vanishes-7 = refl

bounded-7 : bounded_at 3 three grouped 2 7 (point 7) ≡ true
unfolding bounded_at point
bounded-7 = refl

vanishes-8 : vanish 3 three grouped 2 (8 ∷ point 8) ≡ true
unfolding vanish point
vanishes-8 = refl

bounded-8 : bounded_at 3 three grouped 2 8 (point 8) ≡ true
unfolding bounded_at point
bounded-8 = refl

vanishes-9 : vanish 3 three grouped 2 (9 ∷ point 9) ≡ true
unfolding vanish point
vanishes-9 = refl

bounded-9 : bounded_at 3 three grouped 2 9 (point 9) ≡ true
unfolding bounded_at point
bounded-9 = refl

vanishes-10 : vanish 3 three grouped 2 (10 ∷ point 10) ≡ true
unfolding vanish point
vanishes-10 = refl

bounded-10 : bounded_at 3 three grouped 2 10 (point 10) ≡ true
unfolding bounded_at point
bounded-10 = refl

vanishes-11 : vanish 3 three grouped 2 (11 ∷ point 11) ≡ true
unfolding vanish point
vanishes-11 = refl

bounded-11 : bounded_at 3 three grouped 2 11 (point 11) ≡ true
unfolding bounded_at point
bounded-11 = refl

vanishes-12 : vanish 3 three grouped 2 (12 ∷ point 12) ≡ true
unfolding vanish point
vanishes-12 = refl

bounded-12 : bounded_at 3 three grouped 2 12 (point 12) ≡ true
unfolding bounded_at point
bounded-12 = refl

pub point_length : (c : ℕ) → length (point c) ≡ 3
unfolding point
point_length zero = refl
point_length (suc zero) = refl
point_length (suc (suc zero)) = refl
point_length (suc (suc (suc zero))) = refl
point_length (suc (suc (suc (suc zero)))) = refl
point_length (suc (suc (suc (suc (suc zero))))) = refl
point_length (suc (suc (suc (suc (suc (suc zero)))))) = refl
point_length (suc (suc (suc (suc (suc (suc (suc zero))))))) = refl
point_length (suc (suc (suc (suc (suc (suc (suc (suc zero)))))))) = refl
point_length (suc (suc (suc (suc (suc (suc (suc (suc (suc zero))))))))) = refl
point_length (suc (suc (suc (suc (suc (suc (suc (suc (suc (suc zero)))))))))) = refl
point_length (suc (suc (suc (suc (suc (suc (suc (suc (suc (suc (suc zero))))))))))) = refl
point_length (suc (suc (suc (suc (suc (suc (suc (suc (suc (suc (suc (suc zero)))))))))))) = refl
point_length (suc (suc (suc (suc (suc (suc (suc (suc (suc (suc (suc (suc (suc c))))))))))))) = refl

pub vanishes : (c : ℕ) → c < 13 → vanish 3 three grouped 2 (c ∷ point c) ≡ true
vanishes zero l = vanishes-0
vanishes (suc zero) l = vanishes-1
vanishes (suc (suc zero)) l = vanishes-2
vanishes (suc (suc (suc zero))) l = vanishes-3
vanishes (suc (suc (suc (suc zero)))) l = vanishes-4
vanishes (suc (suc (suc (suc (suc zero))))) l = vanishes-5
vanishes (suc (suc (suc (suc (suc (suc zero)))))) l = vanishes-6
vanishes (suc (suc (suc (suc (suc (suc (suc zero))))))) l = vanishes-7
vanishes (suc (suc (suc (suc (suc (suc (suc (suc zero)))))))) l = vanishes-8
vanishes (suc (suc (suc (suc (suc (suc (suc (suc (suc zero))))))))) l = vanishes-9
vanishes (suc (suc (suc (suc (suc (suc (suc (suc (suc (suc zero)))))))))) l = vanishes-10
vanishes (suc (suc (suc (suc (suc (suc (suc (suc (suc (suc (suc zero))))))))))) l = vanishes-11
vanishes (suc (suc (suc (suc (suc (suc (suc (suc (suc (suc (suc (suc zero)))))))))))) l = vanishes-12
vanishes (suc (suc (suc (suc (suc (suc (suc (suc (suc (suc (suc (suc (suc c))))))))))))) l = absurd (omega arith)

pub is_bounded : (c : ℕ) → c < 13 → bounded_at 3 three grouped 2 c (point c) ≡ true
is_bounded zero l = bounded-0
is_bounded (suc zero) l = bounded-1
is_bounded (suc (suc zero)) l = bounded-2
is_bounded (suc (suc (suc zero))) l = bounded-3
is_bounded (suc (suc (suc (suc zero)))) l = bounded-4
is_bounded (suc (suc (suc (suc (suc zero))))) l = bounded-5
is_bounded (suc (suc (suc (suc (suc (suc zero)))))) l = bounded-6
is_bounded (suc (suc (suc (suc (suc (suc (suc zero))))))) l = bounded-7
is_bounded (suc (suc (suc (suc (suc (suc (suc (suc zero)))))))) l = bounded-8
is_bounded (suc (suc (suc (suc (suc (suc (suc (suc (suc zero))))))))) l = bounded-9
is_bounded (suc (suc (suc (suc (suc (suc (suc (suc (suc (suc zero)))))))))) l = bounded-10
is_bounded (suc (suc (suc (suc (suc (suc (suc (suc (suc (suc (suc zero))))))))))) l = bounded-11
is_bounded (suc (suc (suc (suc (suc (suc (suc (suc (suc (suc (suc (suc zero)))))))))))) l = bounded-12
is_bounded (suc (suc (suc (suc (suc (suc (suc (suc (suc (suc (suc (suc (suc c))))))))))))) l = absurd (omega arith)
