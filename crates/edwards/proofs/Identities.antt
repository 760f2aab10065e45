-- Identities of polynomials. tools/certificates/edwards_identities writes this file, and finds the factors of the lines.
use Rattle.std.proofs.Common.{◌≡◌, true, List, [], ◌∷◌, refl}
use Rattle.algebra.proofs.Terms.{Term}
use Rattle.algebra.proofs.Terms.Term.{var, num, ◌⊕◌, ◌⊖◌, ◌⊗◌}
use Rattle.algebra.proofs.Polynomials.{is_identity}
use Rattle.edwards.proofs.Terms.{Points, e_term, f_term, g_term, h_term, sum_terms, double_e_term, double_f_term}
use Rattle.edwards.proofs.Terms.{double_g_term, double_h_term, double_terms, product_left, product_right}
use Rattle.edwards.proofs.Terms.{equation_left, equation_right}

abbrev pub x1 : Term
x1 = var 0

abbrev pub y1 : Term
y1 = var 1

abbrev pub z1 : Term
z1 = var 2

abbrev pub t1 : Term
t1 = var 3

abbrev pub x2 : Term
x2 = var 4

abbrev pub y2 : Term
y2 = var 5

abbrev pub z2 : Term
z2 = var 6

abbrev pub t2 : Term
t2 = var 7

abbrev pub x3 : Term
x3 = var 8

abbrev pub y3 : Term
y3 = var 9

abbrev pub z3 : Term
z3 = var 10

abbrev pub t3 : Term
t3 = var 11

abbrev pub d : Term
d = var 12

abbrev pub r : Term
r = var 13

abbrev pub k : Term
k = num 2 ⊗ d

abbrev pub P : Points
P = record { x = x1; y = y1; z = z1; t = t1 }

abbrev pub Q : Points
Q = record { x = x2; y = y2; z = z2; t = t2 }

abbrev pub R : Points
R = record { x = x3; y = y3; z = z3; t = t3 }

abbrev pub assoc_x_left : Term
assoc_x_left = e_term (sum_terms k P Q) R ⊗ g_term k P (sum_terms k Q R)

abbrev pub assoc_x_right : Term
assoc_x_right = e_term P (sum_terms k Q R) ⊗ g_term k (sum_terms k P Q) R

abbrev pub assoc_x_lines : List (Term × Term × Term)
assoc_x_lines = (
  num 64 ⊗ x1 ⊗ x2 ⊗ x2 ⊗ y2 ⊗ t2 ⊗ y3 ⊗ t3 ⊗ t3 ⊗ d ⊗ d ⊕ num 64 ⊗ x1 ⊗ x2 ⊗ y2 ⊗ y2 ⊗ t2 ⊗ x3 ⊗ t3 ⊗ t3 ⊗ d ⊗ d ⊕
      num 64 ⊗ y1 ⊗ x2 ⊗ x2 ⊗ x2 ⊗ t2 ⊗ y3 ⊗ t3 ⊗ t3 ⊗ d ⊗ d ⊕ num 64 ⊗ y1 ⊗ y2 ⊗ y2 ⊗ y2 ⊗ t2 ⊗ x3 ⊗ t3 ⊗ t3 ⊗ d ⊗ d
      ⊖ num 64 ⊗ x1 ⊗ x2 ⊗ x2 ⊗ x2 ⊗ z2 ⊗ x3 ⊗ z3 ⊗ t3 ⊗ d ⊖ num 64 ⊗ x1 ⊗ x2 ⊗ x2 ⊗ x2 ⊗ t2 ⊗ x3 ⊗ t3 ⊗ t3 ⊗ d ⊗ d ⊖
      num 192 ⊗ x1 ⊗ x2 ⊗ x2 ⊗ y2 ⊗ z2 ⊗ y3 ⊗ z3 ⊗ t3 ⊗ d ⊖ num 192 ⊗ x1 ⊗ x2 ⊗ y2 ⊗ y2 ⊗ z2 ⊗ x3 ⊗ z3 ⊗ t3 ⊗ d ⊖ num
      64 ⊗ x1 ⊗ y2 ⊗ y2 ⊗ y2 ⊗ z2 ⊗ y3 ⊗ z3 ⊗ t3 ⊗ d ⊖ num 64 ⊗ x1 ⊗ y2 ⊗ y2 ⊗ y2 ⊗ t2 ⊗ y3 ⊗ t3 ⊗ t3 ⊗ d ⊗ d ⊖ num 64
      ⊗ y1 ⊗ x2 ⊗ x2 ⊗ x2 ⊗ z2 ⊗ y3 ⊗ z3 ⊗ t3 ⊗ d ⊖ num 192 ⊗ y1 ⊗ x2 ⊗ x2 ⊗ y2 ⊗ z2 ⊗ x3 ⊗ z3 ⊗ t3 ⊗ d ⊖ num 64 ⊗ y1
      ⊗ x2 ⊗ x2 ⊗ y2 ⊗ t2 ⊗ x3 ⊗ t3 ⊗ t3 ⊗ d ⊗ d ⊖ num 192 ⊗ y1 ⊗ x2 ⊗ y2 ⊗ y2 ⊗ z2 ⊗ y3 ⊗ z3 ⊗ t3 ⊗ d ⊖ num 64 ⊗ y1 ⊗
      x2 ⊗ y2 ⊗ y2 ⊗ t2 ⊗ y3 ⊗ t3 ⊗ t3 ⊗ d ⊗ d ⊖ num 64 ⊗ y1 ⊗ y2 ⊗ y2 ⊗ y2 ⊗ z2 ⊗ x3 ⊗ z3 ⊗ t3 ⊗ d,
  product_left P,
  product_right P,
) ∷ (
  num 64 ⊗ x1 ⊗ x2 ⊗ x2 ⊗ y2 ⊗ z2 ⊗ x3 ⊗ z3 ⊗ t3 ⊗ d ⊕ num 64 ⊗ x1 ⊗ x2 ⊗ x2 ⊗ y2 ⊗ t2 ⊗ x3 ⊗ t3 ⊗ t3 ⊗ d ⊗ d ⊕ num
      64 ⊗ x1 ⊗ x2 ⊗ y2 ⊗ y2 ⊗ z2 ⊗ y3 ⊗ z3 ⊗ t3 ⊗ d ⊕ num 64 ⊗ x1 ⊗ x2 ⊗ y2 ⊗ y2 ⊗ t2 ⊗ y3 ⊗ t3 ⊗ t3 ⊗ d ⊗ d ⊕ num 64
      ⊗ y1 ⊗ x2 ⊗ x2 ⊗ y2 ⊗ t2 ⊗ y3 ⊗ t3 ⊗ t3 ⊗ d ⊗ d ⊕ num 64 ⊗ y1 ⊗ x2 ⊗ y2 ⊗ y2 ⊗ t2 ⊗ x3 ⊗ t3 ⊗ t3 ⊗ d ⊗ d ⊖ num
      64 ⊗ y1 ⊗ x2 ⊗ x2 ⊗ y2 ⊗ z2 ⊗ y3 ⊗ z3 ⊗ t3 ⊗ d ⊖ num 64 ⊗ y1 ⊗ x2 ⊗ y2 ⊗ y2 ⊗ z2 ⊗ x3 ⊗ z3 ⊗ t3 ⊗ d,
  equation_left P,
  equation_right d P,
) ∷ (
  num 64 ⊗ x1 ⊗ z1 ⊗ z1 ⊗ x2 ⊗ z2 ⊗ x3 ⊗ z3 ⊗ t3 ⊗ d ⊕ num 64 ⊗ x1 ⊗ z1 ⊗ z1 ⊗ x2 ⊗ t2 ⊗ x3 ⊗ t3 ⊗ t3 ⊗ d ⊗ d ⊕ num
      64 ⊗ x1 ⊗ z1 ⊗ z1 ⊗ y2 ⊗ z2 ⊗ y3 ⊗ z3 ⊗ t3 ⊗ d ⊕ num 64 ⊗ x1 ⊗ z1 ⊗ z1 ⊗ y2 ⊗ t2 ⊗ y3 ⊗ t3 ⊗ t3 ⊗ d ⊗ d ⊕ num 64
      ⊗ x1 ⊗ z1 ⊗ t1 ⊗ y2 ⊗ z2 ⊗ y3 ⊗ z3 ⊗ z3 ⊗ d ⊕ num 64 ⊗ x1 ⊗ z1 ⊗ t1 ⊗ y2 ⊗ z2 ⊗ y3 ⊗ t3 ⊗ t3 ⊗ d ⊗ d ⊕ num 64 ⊗
      x1 ⊗ t1 ⊗ t1 ⊗ x2 ⊗ z2 ⊗ x3 ⊗ z3 ⊗ t3 ⊗ d ⊗ d ⊕ num 64 ⊗ x1 ⊗ t1 ⊗ t1 ⊗ y2 ⊗ z2 ⊗ y3 ⊗ z3 ⊗ t3 ⊗ d ⊗ d ⊕ num 64
      ⊗ y1 ⊗ z1 ⊗ z1 ⊗ x2 ⊗ t2 ⊗ y3 ⊗ t3 ⊗ t3 ⊗ d ⊗ d ⊕ num 64 ⊗ y1 ⊗ z1 ⊗ z1 ⊗ y2 ⊗ t2 ⊗ x3 ⊗ t3 ⊗ t3 ⊗ d ⊗ d ⊕ num
      64 ⊗ y1 ⊗ z1 ⊗ t1 ⊗ x2 ⊗ z2 ⊗ y3 ⊗ z3 ⊗ z3 ⊗ d ⊕ num 64 ⊗ y1 ⊗ z1 ⊗ t1 ⊗ x2 ⊗ z2 ⊗ y3 ⊗ t3 ⊗ t3 ⊗ d ⊗ d ⊖ num 64
      ⊗ x1 ⊗ z1 ⊗ t1 ⊗ x2 ⊗ z2 ⊗ x3 ⊗ z3 ⊗ z3 ⊗ d ⊖ num 64 ⊗ x1 ⊗ z1 ⊗ t1 ⊗ x2 ⊗ z2 ⊗ x3 ⊗ t3 ⊗ t3 ⊗ d ⊗ d ⊖ num 64 ⊗
      x1 ⊗ t1 ⊗ t1 ⊗ x2 ⊗ t2 ⊗ x3 ⊗ z3 ⊗ z3 ⊗ d ⊗ d ⊖ num 64 ⊗ x1 ⊗ t1 ⊗ t1 ⊗ y2 ⊗ t2 ⊗ y3 ⊗ z3 ⊗ z3 ⊗ d ⊗ d ⊖ num 64
      ⊗ y1 ⊗ z1 ⊗ z1 ⊗ x2 ⊗ z2 ⊗ y3 ⊗ z3 ⊗ t3 ⊗ d ⊖ num 64 ⊗ y1 ⊗ z1 ⊗ z1 ⊗ y2 ⊗ z2 ⊗ x3 ⊗ z3 ⊗ t3 ⊗ d ⊖ num 64 ⊗ y1 ⊗
      z1 ⊗ t1 ⊗ y2 ⊗ z2 ⊗ x3 ⊗ z3 ⊗ z3 ⊗ d ⊖ num 64 ⊗ y1 ⊗ z1 ⊗ t1 ⊗ y2 ⊗ z2 ⊗ x3 ⊗ t3 ⊗ t3 ⊗ d ⊗ d ⊖ num 64 ⊗ y1 ⊗ t1
      ⊗ t1 ⊗ x2 ⊗ z2 ⊗ y3 ⊗ z3 ⊗ t3 ⊗ d ⊗ d ⊖ num 64 ⊗ y1 ⊗ t1 ⊗ t1 ⊗ x2 ⊗ t2 ⊗ y3 ⊗ z3 ⊗ z3 ⊗ d ⊗ d ⊖ num 64 ⊗ y1 ⊗
      t1 ⊗ t1 ⊗ y2 ⊗ z2 ⊗ x3 ⊗ z3 ⊗ t3 ⊗ d ⊗ d ⊖ num 64 ⊗ y1 ⊗ t1 ⊗ t1 ⊗ y2 ⊗ t2 ⊗ x3 ⊗ z3 ⊗ z3 ⊗ d ⊗ d,
  product_left Q,
  product_right Q,
) ∷ (
  num 64 ⊗ x1 ⊗ z1 ⊗ t1 ⊗ x2 ⊗ t2 ⊗ x3 ⊗ t3 ⊗ t3 ⊗ d ⊗ d ⊕ num 64 ⊗ y1 ⊗ z1 ⊗ t1 ⊗ y2 ⊗ t2 ⊗ x3 ⊗ t3 ⊗ t3 ⊗ d ⊗ d ⊕
      num 64 ⊗ y1 ⊗ t1 ⊗ t1 ⊗ x2 ⊗ t2 ⊗ y3 ⊗ z3 ⊗ t3 ⊗ d ⊗ d ⊕ num 64 ⊗ y1 ⊗ t1 ⊗ t1 ⊗ y2 ⊗ t2 ⊗ x3 ⊗ z3 ⊗ t3 ⊗ d ⊗ d
      ⊖ num 64 ⊗ x1 ⊗ z1 ⊗ t1 ⊗ y2 ⊗ t2 ⊗ y3 ⊗ t3 ⊗ t3 ⊗ d ⊗ d ⊖ num 64 ⊗ x1 ⊗ t1 ⊗ t1 ⊗ x2 ⊗ t2 ⊗ x3 ⊗ z3 ⊗ t3 ⊗ d ⊗
      d ⊖ num 64 ⊗ x1 ⊗ t1 ⊗ t1 ⊗ y2 ⊗ t2 ⊗ y3 ⊗ z3 ⊗ t3 ⊗ d ⊗ d ⊖ num 64 ⊗ y1 ⊗ z1 ⊗ t1 ⊗ x2 ⊗ t2 ⊗ y3 ⊗ t3 ⊗ t3 ⊗ d
      ⊗ d,
  equation_left Q,
  equation_right d Q,
) ∷ (
  num 64 ⊗ x1 ⊗ z1 ⊗ t1 ⊗ x2 ⊗ x2 ⊗ x2 ⊗ z2 ⊗ x3 ⊗ d ⊕ num 192 ⊗ x1 ⊗ z1 ⊗ t1 ⊗ x2 ⊗ x2 ⊗ y2 ⊗ z2 ⊗ y3 ⊗ d ⊕ num 192
      ⊗ x1 ⊗ z1 ⊗ t1 ⊗ x2 ⊗ y2 ⊗ y2 ⊗ z2 ⊗ x3 ⊗ d ⊕ num 64 ⊗ x1 ⊗ z1 ⊗ t1 ⊗ y2 ⊗ y2 ⊗ y2 ⊗ z2 ⊗ y3 ⊗ d ⊕ num 64 ⊗ x1 ⊗
      t1 ⊗ t1 ⊗ x2 ⊗ x2 ⊗ x2 ⊗ t2 ⊗ x3 ⊗ d ⊗ d ⊕ num 64 ⊗ x1 ⊗ t1 ⊗ t1 ⊗ x2 ⊗ x2 ⊗ y2 ⊗ t2 ⊗ y3 ⊗ d ⊗ d ⊕ num 64 ⊗ y1
      ⊗ z1 ⊗ t1 ⊗ x2 ⊗ x2 ⊗ x2 ⊗ z2 ⊗ y3 ⊗ d ⊕ num 192 ⊗ y1 ⊗ z1 ⊗ t1 ⊗ x2 ⊗ x2 ⊗ y2 ⊗ z2 ⊗ x3 ⊗ d ⊕ num 192 ⊗ y1 ⊗ z1
      ⊗ t1 ⊗ x2 ⊗ y2 ⊗ y2 ⊗ z2 ⊗ y3 ⊗ d ⊕ num 64 ⊗ y1 ⊗ z1 ⊗ t1 ⊗ y2 ⊗ y2 ⊗ y2 ⊗ z2 ⊗ x3 ⊗ d ⊕ num 64 ⊗ y1 ⊗ t1 ⊗ t1 ⊗
      x2 ⊗ y2 ⊗ y2 ⊗ t2 ⊗ y3 ⊗ d ⊗ d ⊕ num 64 ⊗ y1 ⊗ t1 ⊗ t1 ⊗ y2 ⊗ y2 ⊗ y2 ⊗ t2 ⊗ x3 ⊗ d ⊗ d ⊖ num 64 ⊗ x1 ⊗ t1 ⊗ t1
      ⊗ x2 ⊗ y2 ⊗ y2 ⊗ t2 ⊗ x3 ⊗ d ⊗ d ⊖ num 64 ⊗ x1 ⊗ t1 ⊗ t1 ⊗ y2 ⊗ y2 ⊗ y2 ⊗ t2 ⊗ y3 ⊗ d ⊗ d ⊖ num 64 ⊗ y1 ⊗ t1 ⊗
      t1 ⊗ x2 ⊗ x2 ⊗ x2 ⊗ t2 ⊗ y3 ⊗ d ⊗ d ⊖ num 64 ⊗ y1 ⊗ t1 ⊗ t1 ⊗ x2 ⊗ x2 ⊗ y2 ⊗ t2 ⊗ x3 ⊗ d ⊗ d,
  product_left R,
  product_right R,
) ∷ (
  num 64 ⊗ x1 ⊗ z1 ⊗ t1 ⊗ x2 ⊗ y2 ⊗ y2 ⊗ z2 ⊗ y3 ⊗ d ⊕ num 64 ⊗ y1 ⊗ z1 ⊗ t1 ⊗ x2 ⊗ x2 ⊗ y2 ⊗ z2 ⊗ y3 ⊗ d ⊖ num 64 ⊗
      x1 ⊗ z1 ⊗ t1 ⊗ x2 ⊗ x2 ⊗ y2 ⊗ z2 ⊗ x3 ⊗ d ⊖ num 64 ⊗ x1 ⊗ t1 ⊗ t1 ⊗ x2 ⊗ x2 ⊗ y2 ⊗ t2 ⊗ x3 ⊗ d ⊗ d ⊖ num 64 ⊗ x1
      ⊗ t1 ⊗ t1 ⊗ x2 ⊗ y2 ⊗ y2 ⊗ t2 ⊗ y3 ⊗ d ⊗ d ⊖ num 64 ⊗ y1 ⊗ z1 ⊗ t1 ⊗ x2 ⊗ y2 ⊗ y2 ⊗ z2 ⊗ x3 ⊗ d ⊖ num 64 ⊗ y1 ⊗
      t1 ⊗ t1 ⊗ x2 ⊗ x2 ⊗ y2 ⊗ t2 ⊗ y3 ⊗ d ⊗ d ⊖ num 64 ⊗ y1 ⊗ t1 ⊗ t1 ⊗ x2 ⊗ y2 ⊗ y2 ⊗ t2 ⊗ x3 ⊗ d ⊗ d,
  equation_left R,
  equation_right d R,
) ∷ []

pub assoc_x : is_identity assoc_x_left assoc_x_right assoc_x_lines ≡ true
unfolding is_identity
assoc_x = refl

abbrev pub assoc_y_left : Term
assoc_y_left = h_term (sum_terms k P Q) R ⊗ f_term k P (sum_terms k Q R)

abbrev pub assoc_y_right : Term
assoc_y_right = h_term P (sum_terms k Q R) ⊗ f_term k (sum_terms k P Q) R

abbrev pub assoc_y_lines : List (Term × Term × Term)
assoc_y_lines = (
  num 64 ⊗ x1 ⊗ x2 ⊗ x2 ⊗ x2 ⊗ z2 ⊗ y3 ⊗ z3 ⊗ t3 ⊗ d ⊕ num 192 ⊗ x1 ⊗ x2 ⊗ x2 ⊗ y2 ⊗ z2 ⊗ x3 ⊗ z3 ⊗ t3 ⊗ d ⊕ num 64 ⊗
      x1 ⊗ x2 ⊗ x2 ⊗ y2 ⊗ t2 ⊗ x3 ⊗ t3 ⊗ t3 ⊗ d ⊗ d ⊕ num 192 ⊗ x1 ⊗ x2 ⊗ y2 ⊗ y2 ⊗ z2 ⊗ y3 ⊗ z3 ⊗ t3 ⊗ d ⊕ num 64 ⊗
      x1 ⊗ x2 ⊗ y2 ⊗ y2 ⊗ t2 ⊗ y3 ⊗ t3 ⊗ t3 ⊗ d ⊗ d ⊕ num 64 ⊗ x1 ⊗ y2 ⊗ y2 ⊗ y2 ⊗ z2 ⊗ x3 ⊗ z3 ⊗ t3 ⊗ d ⊕ num 64 ⊗ y1
      ⊗ x2 ⊗ x2 ⊗ x2 ⊗ z2 ⊗ x3 ⊗ z3 ⊗ t3 ⊗ d ⊕ num 64 ⊗ y1 ⊗ x2 ⊗ x2 ⊗ x2 ⊗ t2 ⊗ x3 ⊗ t3 ⊗ t3 ⊗ d ⊗ d ⊕ num 192 ⊗ y1 ⊗
      x2 ⊗ x2 ⊗ y2 ⊗ z2 ⊗ y3 ⊗ z3 ⊗ t3 ⊗ d ⊕ num 192 ⊗ y1 ⊗ x2 ⊗ y2 ⊗ y2 ⊗ z2 ⊗ x3 ⊗ z3 ⊗ t3 ⊗ d ⊕ num 64 ⊗ y1 ⊗ y2 ⊗
      y2 ⊗ y2 ⊗ z2 ⊗ y3 ⊗ z3 ⊗ t3 ⊗ d ⊕ num 64 ⊗ y1 ⊗ y2 ⊗ y2 ⊗ y2 ⊗ t2 ⊗ y3 ⊗ t3 ⊗ t3 ⊗ d ⊗ d ⊖ num 64 ⊗ x1 ⊗ x2 ⊗ x2
      ⊗ x2 ⊗ t2 ⊗ y3 ⊗ t3 ⊗ t3 ⊗ d ⊗ d ⊖ num 64 ⊗ x1 ⊗ y2 ⊗ y2 ⊗ y2 ⊗ t2 ⊗ x3 ⊗ t3 ⊗ t3 ⊗ d ⊗ d ⊖ num 64 ⊗ y1 ⊗ x2 ⊗
      x2 ⊗ y2 ⊗ t2 ⊗ y3 ⊗ t3 ⊗ t3 ⊗ d ⊗ d ⊖ num 64 ⊗ y1 ⊗ x2 ⊗ y2 ⊗ y2 ⊗ t2 ⊗ x3 ⊗ t3 ⊗ t3 ⊗ d ⊗ d,
  product_left P,
  product_right P,
) ∷ (
  num 64 ⊗ x1 ⊗ x2 ⊗ x2 ⊗ y2 ⊗ t2 ⊗ y3 ⊗ t3 ⊗ t3 ⊗ d ⊗ d ⊕ num 64 ⊗ x1 ⊗ x2 ⊗ y2 ⊗ y2 ⊗ t2 ⊗ x3 ⊗ t3 ⊗ t3 ⊗ d ⊗ d ⊕
      num 64 ⊗ y1 ⊗ x2 ⊗ x2 ⊗ y2 ⊗ z2 ⊗ x3 ⊗ z3 ⊗ t3 ⊗ d ⊕ num 64 ⊗ y1 ⊗ x2 ⊗ x2 ⊗ y2 ⊗ t2 ⊗ x3 ⊗ t3 ⊗ t3 ⊗ d ⊗ d ⊕
      num 64 ⊗ y1 ⊗ x2 ⊗ y2 ⊗ y2 ⊗ z2 ⊗ y3 ⊗ z3 ⊗ t3 ⊗ d ⊕ num 64 ⊗ y1 ⊗ x2 ⊗ y2 ⊗ y2 ⊗ t2 ⊗ y3 ⊗ t3 ⊗ t3 ⊗ d ⊗ d ⊖
      num 64 ⊗ x1 ⊗ x2 ⊗ x2 ⊗ y2 ⊗ z2 ⊗ y3 ⊗ z3 ⊗ t3 ⊗ d ⊖ num 64 ⊗ x1 ⊗ x2 ⊗ y2 ⊗ y2 ⊗ z2 ⊗ x3 ⊗ z3 ⊗ t3 ⊗ d,
  equation_left P,
  equation_right d P,
) ∷ (
  num 64 ⊗ x1 ⊗ z1 ⊗ z1 ⊗ x2 ⊗ t2 ⊗ y3 ⊗ t3 ⊗ t3 ⊗ d ⊗ d ⊕ num 64 ⊗ x1 ⊗ z1 ⊗ z1 ⊗ y2 ⊗ t2 ⊗ x3 ⊗ t3 ⊗ t3 ⊗ d ⊗ d ⊕
      num 64 ⊗ x1 ⊗ z1 ⊗ t1 ⊗ y2 ⊗ z2 ⊗ x3 ⊗ z3 ⊗ z3 ⊗ d ⊕ num 64 ⊗ x1 ⊗ z1 ⊗ t1 ⊗ y2 ⊗ z2 ⊗ x3 ⊗ t3 ⊗ t3 ⊗ d ⊗ d ⊕
      num 64 ⊗ y1 ⊗ z1 ⊗ z1 ⊗ x2 ⊗ z2 ⊗ x3 ⊗ z3 ⊗ t3 ⊗ d ⊕ num 64 ⊗ y1 ⊗ z1 ⊗ z1 ⊗ x2 ⊗ t2 ⊗ x3 ⊗ t3 ⊗ t3 ⊗ d ⊗ d ⊕
      num 64 ⊗ y1 ⊗ z1 ⊗ z1 ⊗ y2 ⊗ z2 ⊗ y3 ⊗ z3 ⊗ t3 ⊗ d ⊕ num 64 ⊗ y1 ⊗ z1 ⊗ z1 ⊗ y2 ⊗ t2 ⊗ y3 ⊗ t3 ⊗ t3 ⊗ d ⊗ d ⊕
      num 64 ⊗ y1 ⊗ z1 ⊗ t1 ⊗ x2 ⊗ z2 ⊗ x3 ⊗ z3 ⊗ z3 ⊗ d ⊕ num 64 ⊗ y1 ⊗ z1 ⊗ t1 ⊗ x2 ⊗ z2 ⊗ x3 ⊗ t3 ⊗ t3 ⊗ d ⊗ d ⊕
      num 64 ⊗ y1 ⊗ t1 ⊗ t1 ⊗ x2 ⊗ z2 ⊗ x3 ⊗ z3 ⊗ t3 ⊗ d ⊗ d ⊕ num 64 ⊗ y1 ⊗ t1 ⊗ t1 ⊗ y2 ⊗ z2 ⊗ y3 ⊗ z3 ⊗ t3 ⊗ d ⊗ d
      ⊖ num 64 ⊗ x1 ⊗ z1 ⊗ z1 ⊗ x2 ⊗ z2 ⊗ y3 ⊗ z3 ⊗ t3 ⊗ d ⊖ num 64 ⊗ x1 ⊗ z1 ⊗ z1 ⊗ y2 ⊗ z2 ⊗ x3 ⊗ z3 ⊗ t3 ⊗ d ⊖ num
      64 ⊗ x1 ⊗ z1 ⊗ t1 ⊗ x2 ⊗ z2 ⊗ y3 ⊗ z3 ⊗ z3 ⊗ d ⊖ num 64 ⊗ x1 ⊗ z1 ⊗ t1 ⊗ x2 ⊗ z2 ⊗ y3 ⊗ t3 ⊗ t3 ⊗ d ⊗ d ⊖ num 64
      ⊗ x1 ⊗ t1 ⊗ t1 ⊗ x2 ⊗ z2 ⊗ y3 ⊗ z3 ⊗ t3 ⊗ d ⊗ d ⊖ num 64 ⊗ x1 ⊗ t1 ⊗ t1 ⊗ x2 ⊗ t2 ⊗ y3 ⊗ z3 ⊗ z3 ⊗ d ⊗ d ⊖ num
      64 ⊗ x1 ⊗ t1 ⊗ t1 ⊗ y2 ⊗ z2 ⊗ x3 ⊗ z3 ⊗ t3 ⊗ d ⊗ d ⊖ num 64 ⊗ x1 ⊗ t1 ⊗ t1 ⊗ y2 ⊗ t2 ⊗ x3 ⊗ z3 ⊗ z3 ⊗ d ⊗ d ⊖
      num 64 ⊗ y1 ⊗ z1 ⊗ t1 ⊗ y2 ⊗ z2 ⊗ y3 ⊗ z3 ⊗ z3 ⊗ d ⊖ num 64 ⊗ y1 ⊗ z1 ⊗ t1 ⊗ y2 ⊗ z2 ⊗ y3 ⊗ t3 ⊗ t3 ⊗ d ⊗ d ⊖
      num 64 ⊗ y1 ⊗ t1 ⊗ t1 ⊗ x2 ⊗ t2 ⊗ x3 ⊗ z3 ⊗ z3 ⊗ d ⊗ d ⊖ num 64 ⊗ y1 ⊗ t1 ⊗ t1 ⊗ y2 ⊗ t2 ⊗ y3 ⊗ z3 ⊗ z3 ⊗ d ⊗ d,
  product_left Q,
  product_right Q,
) ∷ (
  num 64 ⊗ x1 ⊗ z1 ⊗ t1 ⊗ x2 ⊗ t2 ⊗ y3 ⊗ t3 ⊗ t3 ⊗ d ⊗ d ⊕ num 64 ⊗ x1 ⊗ t1 ⊗ t1 ⊗ x2 ⊗ t2 ⊗ y3 ⊗ z3 ⊗ t3 ⊗ d ⊗ d ⊕
      num 64 ⊗ x1 ⊗ t1 ⊗ t1 ⊗ y2 ⊗ t2 ⊗ x3 ⊗ z3 ⊗ t3 ⊗ d ⊗ d ⊕ num 64 ⊗ y1 ⊗ z1 ⊗ t1 ⊗ y2 ⊗ t2 ⊗ y3 ⊗ t3 ⊗ t3 ⊗ d ⊗ d
      ⊖ num 64 ⊗ x1 ⊗ z1 ⊗ t1 ⊗ y2 ⊗ t2 ⊗ x3 ⊗ t3 ⊗ t3 ⊗ d ⊗ d ⊖ num 64 ⊗ y1 ⊗ z1 ⊗ t1 ⊗ x2 ⊗ t2 ⊗ x3 ⊗ t3 ⊗ t3 ⊗ d ⊗
      d ⊖ num 64 ⊗ y1 ⊗ t1 ⊗ t1 ⊗ x2 ⊗ t2 ⊗ x3 ⊗ z3 ⊗ t3 ⊗ d ⊗ d ⊖ num 64 ⊗ y1 ⊗ t1 ⊗ t1 ⊗ y2 ⊗ t2 ⊗ y3 ⊗ z3 ⊗ t3 ⊗ d
      ⊗ d,
  equation_left Q,
  equation_right d Q,
) ∷ (
  num 64 ⊗ x1 ⊗ t1 ⊗ t1 ⊗ x2 ⊗ y2 ⊗ y2 ⊗ t2 ⊗ y3 ⊗ d ⊗ d ⊕ num 64 ⊗ x1 ⊗ t1 ⊗ t1 ⊗ y2 ⊗ y2 ⊗ y2 ⊗ t2 ⊗ x3 ⊗ d ⊗ d ⊕
      num 64 ⊗ y1 ⊗ t1 ⊗ t1 ⊗ x2 ⊗ x2 ⊗ x2 ⊗ t2 ⊗ x3 ⊗ d ⊗ d ⊕ num 64 ⊗ y1 ⊗ t1 ⊗ t1 ⊗ x2 ⊗ x2 ⊗ y2 ⊗ t2 ⊗ y3 ⊗ d ⊗ d
      ⊖ num 64 ⊗ x1 ⊗ z1 ⊗ t1 ⊗ x2 ⊗ x2 ⊗ x2 ⊗ z2 ⊗ y3 ⊗ d ⊖ num 192 ⊗ x1 ⊗ z1 ⊗ t1 ⊗ x2 ⊗ x2 ⊗ y2 ⊗ z2 ⊗ x3 ⊗ d ⊖ num
      192 ⊗ x1 ⊗ z1 ⊗ t1 ⊗ x2 ⊗ y2 ⊗ y2 ⊗ z2 ⊗ y3 ⊗ d ⊖ num 64 ⊗ x1 ⊗ z1 ⊗ t1 ⊗ y2 ⊗ y2 ⊗ y2 ⊗ z2 ⊗ x3 ⊗ d ⊖ num 64 ⊗
      x1 ⊗ t1 ⊗ t1 ⊗ x2 ⊗ x2 ⊗ x2 ⊗ t2 ⊗ y3 ⊗ d ⊗ d ⊖ num 64 ⊗ x1 ⊗ t1 ⊗ t1 ⊗ x2 ⊗ x2 ⊗ y2 ⊗ t2 ⊗ x3 ⊗ d ⊗ d ⊖ num 64
      ⊗ y1 ⊗ z1 ⊗ t1 ⊗ x2 ⊗ x2 ⊗ x2 ⊗ z2 ⊗ x3 ⊗ d ⊖ num 192 ⊗ y1 ⊗ z1 ⊗ t1 ⊗ x2 ⊗ x2 ⊗ y2 ⊗ z2 ⊗ y3 ⊗ d ⊖ num 192 ⊗ y1
      ⊗ z1 ⊗ t1 ⊗ x2 ⊗ y2 ⊗ y2 ⊗ z2 ⊗ x3 ⊗ d ⊖ num 64 ⊗ y1 ⊗ z1 ⊗ t1 ⊗ y2 ⊗ y2 ⊗ y2 ⊗ z2 ⊗ y3 ⊗ d ⊖ num 64 ⊗ y1 ⊗ t1 ⊗
      t1 ⊗ x2 ⊗ y2 ⊗ y2 ⊗ t2 ⊗ x3 ⊗ d ⊗ d ⊖ num 64 ⊗ y1 ⊗ t1 ⊗ t1 ⊗ y2 ⊗ y2 ⊗ y2 ⊗ t2 ⊗ y3 ⊗ d ⊗ d,
  product_left R,
  product_right R,
) ∷ (
  num 64 ⊗ x1 ⊗ z1 ⊗ t1 ⊗ x2 ⊗ y2 ⊗ y2 ⊗ z2 ⊗ x3 ⊗ d ⊕ num 64 ⊗ y1 ⊗ z1 ⊗ t1 ⊗ x2 ⊗ x2 ⊗ y2 ⊗ z2 ⊗ x3 ⊗ d ⊖ num 64 ⊗
      x1 ⊗ z1 ⊗ t1 ⊗ x2 ⊗ x2 ⊗ y2 ⊗ z2 ⊗ y3 ⊗ d ⊖ num 64 ⊗ x1 ⊗ t1 ⊗ t1 ⊗ x2 ⊗ x2 ⊗ y2 ⊗ t2 ⊗ y3 ⊗ d ⊗ d ⊖ num 64 ⊗ x1
      ⊗ t1 ⊗ t1 ⊗ x2 ⊗ y2 ⊗ y2 ⊗ t2 ⊗ x3 ⊗ d ⊗ d ⊖ num 64 ⊗ y1 ⊗ z1 ⊗ t1 ⊗ x2 ⊗ y2 ⊗ y2 ⊗ z2 ⊗ y3 ⊗ d ⊖ num 64 ⊗ y1 ⊗
      t1 ⊗ t1 ⊗ x2 ⊗ x2 ⊗ y2 ⊗ t2 ⊗ x3 ⊗ d ⊗ d ⊖ num 64 ⊗ y1 ⊗ t1 ⊗ t1 ⊗ x2 ⊗ y2 ⊗ y2 ⊗ t2 ⊗ y3 ⊗ d ⊗ d,
  equation_left R,
  equation_right d R,
) ∷ []

pub assoc_y : is_identity assoc_y_left assoc_y_right assoc_y_lines ≡ true
unfolding is_identity
assoc_y = refl

abbrev pub sum_equation_left : Term
sum_equation_left = equation_left (sum_terms k P Q)

abbrev pub sum_equation_right : Term
sum_equation_right = equation_right d (sum_terms k P Q)

abbrev pub sum_equation_lines : List (Term × Term × Term)
sum_equation_lines = (
  num 128 ⊗ z1 ⊗ t1 ⊗ x2 ⊗ y2 ⊗ z2 ⊗ t2 ⊗ d ⊖ num 64 ⊗ x1 ⊗ x1 ⊗ x2 ⊗ x2 ⊗ x2 ⊗ y2 ⊗ d ⊖ num 64 ⊗ x1 ⊗ x1 ⊗ x2 ⊗ y2 ⊗
      y2 ⊗ y2 ⊗ d ⊖ num 16 ⊗ x1 ⊗ y1 ⊗ x2 ⊗ x2 ⊗ x2 ⊗ x2 ⊗ d ⊖ num 96 ⊗ x1 ⊗ y1 ⊗ x2 ⊗ x2 ⊗ y2 ⊗ y2 ⊗ d ⊖ num 16 ⊗ x1
      ⊗ y1 ⊗ y2 ⊗ y2 ⊗ y2 ⊗ y2 ⊗ d ⊖ num 32 ⊗ z1 ⊗ z1 ⊗ x2 ⊗ x2 ⊗ x2 ⊗ y2 ⊗ d ⊖ num 32 ⊗ z1 ⊗ z1 ⊗ x2 ⊗ y2 ⊗ y2 ⊗ y2 ⊗
      d ⊖ num 16 ⊗ z1 ⊗ t1 ⊗ x2 ⊗ x2 ⊗ x2 ⊗ x2 ⊗ d ⊖ num 96 ⊗ z1 ⊗ t1 ⊗ x2 ⊗ x2 ⊗ y2 ⊗ y2 ⊗ d ⊖ num 16 ⊗ z1 ⊗ t1 ⊗ y2
      ⊗ y2 ⊗ y2 ⊗ y2 ⊗ d ⊖ num 32 ⊗ t1 ⊗ t1 ⊗ x2 ⊗ x2 ⊗ x2 ⊗ y2 ⊗ d ⊗ d ⊖ num 32 ⊗ t1 ⊗ t1 ⊗ x2 ⊗ y2 ⊗ y2 ⊗ y2 ⊗ d ⊗
      d,
  product_left P,
  product_right P,
) ∷ (
  num 16 ⊗ x1 ⊗ x1 ⊗ x2 ⊗ x2 ⊗ y2 ⊗ y2 ⊗ d ⊕ num 16 ⊗ z1 ⊗ z1 ⊗ y2 ⊗ y2 ⊗ z2 ⊗ z2 ⊕ num 32 ⊗ z1 ⊗ t1 ⊗ x2 ⊗ x2 ⊗ z2 ⊗
      t2 ⊗ d ⊕ num 32 ⊗ z1 ⊗ t1 ⊗ y2 ⊗ y2 ⊗ z2 ⊗ t2 ⊗ d ⊕ num 16 ⊗ t1 ⊗ t1 ⊗ y2 ⊗ y2 ⊗ t2 ⊗ t2 ⊗ d ⊗ d ⊖ num 32 ⊗ x1 ⊗
      y1 ⊗ x2 ⊗ x2 ⊗ x2 ⊗ y2 ⊗ d ⊖ num 32 ⊗ x1 ⊗ y1 ⊗ x2 ⊗ y2 ⊗ y2 ⊗ y2 ⊗ d ⊖ num 16 ⊗ y1 ⊗ y1 ⊗ x2 ⊗ x2 ⊗ y2 ⊗ y2 ⊗ d
      ⊖ num 16 ⊗ z1 ⊗ z1 ⊗ x2 ⊗ x2 ⊗ y2 ⊗ y2 ⊗ d ⊖ num 16 ⊗ z1 ⊗ z1 ⊗ x2 ⊗ x2 ⊗ z2 ⊗ z2 ⊖ num 16 ⊗ t1 ⊗ t1 ⊗ x2 ⊗ x2 ⊗
      y2 ⊗ y2 ⊗ d ⊗ d ⊖ num 16 ⊗ t1 ⊗ t1 ⊗ x2 ⊗ x2 ⊗ t2 ⊗ t2 ⊗ d ⊗ d,
  equation_left P,
  equation_right d P,
) ∷ (
  num 0 ⊖ num 128 ⊗ x1 ⊗ x1 ⊗ z1 ⊗ t1 ⊗ x2 ⊗ x2 ⊗ d ⊖ num 64 ⊗ x1 ⊗ x1 ⊗ z1 ⊗ t1 ⊗ z2 ⊗ z2 ⊗ d ⊖ num 64 ⊗ x1 ⊗ x1 ⊗
      z1 ⊗ t1 ⊗ t2 ⊗ t2 ⊗ d ⊗ d ⊖ num 16 ⊗ z1 ⊗ z1 ⊗ z1 ⊗ z1 ⊗ x2 ⊗ y2 ⊗ d ⊖ num 16 ⊗ z1 ⊗ z1 ⊗ z1 ⊗ z1 ⊗ z2 ⊗ t2 ⊗ d
      ⊖ num 64 ⊗ z1 ⊗ z1 ⊗ z1 ⊗ t1 ⊗ x2 ⊗ x2 ⊗ d ⊖ num 32 ⊗ z1 ⊗ z1 ⊗ z1 ⊗ t1 ⊗ z2 ⊗ z2 ⊗ d ⊖ num 32 ⊗ z1 ⊗ z1 ⊗ z1 ⊗
      t1 ⊗ t2 ⊗ t2 ⊗ d ⊗ d ⊖ num 32 ⊗ z1 ⊗ z1 ⊗ t1 ⊗ t1 ⊗ x2 ⊗ y2 ⊗ d ⊗ d ⊖ num 128 ⊗ z1 ⊗ z1 ⊗ t1 ⊗ t1 ⊗ x2 ⊗ y2 ⊗ d
      ⊖ num 32 ⊗ z1 ⊗ z1 ⊗ t1 ⊗ t1 ⊗ z2 ⊗ t2 ⊗ d ⊗ d ⊖ num 64 ⊗ z1 ⊗ t1 ⊗ t1 ⊗ t1 ⊗ x2 ⊗ x2 ⊗ d ⊗ d ⊖ num 32 ⊗ z1 ⊗ t1
      ⊗ t1 ⊗ t1 ⊗ z2 ⊗ z2 ⊗ d ⊗ d ⊖ num 32 ⊗ z1 ⊗ t1 ⊗ t1 ⊗ t1 ⊗ t2 ⊗ t2 ⊗ d ⊗ d ⊗ d ⊖ num 16 ⊗ t1 ⊗ t1 ⊗ t1 ⊗ t1 ⊗ x2
      ⊗ y2 ⊗ d ⊗ d ⊗ d ⊖ num 16 ⊗ t1 ⊗ t1 ⊗ t1 ⊗ t1 ⊗ z2 ⊗ t2 ⊗ d ⊗ d ⊗ d,
  product_left Q,
  product_right Q,
) ∷ (
  num 64 ⊗ x1 ⊗ x1 ⊗ z1 ⊗ t1 ⊗ z2 ⊗ t2 ⊗ d ⊕ num 16 ⊗ z1 ⊗ z1 ⊗ z1 ⊗ z1 ⊗ z2 ⊗ z2 ⊕ num 32 ⊗ z1 ⊗ z1 ⊗ z1 ⊗ t1 ⊗ z2 ⊗
      t2 ⊗ d ⊕ num 16 ⊗ z1 ⊗ z1 ⊗ t1 ⊗ t1 ⊗ x2 ⊗ x2 ⊗ d ⊕ num 32 ⊗ z1 ⊗ t1 ⊗ t1 ⊗ t1 ⊗ z2 ⊗ t2 ⊗ d ⊗ d ⊕ num 16 ⊗ t1 ⊗
      t1 ⊗ t1 ⊗ t1 ⊗ t2 ⊗ t2 ⊗ d ⊗ d ⊗ d ⊖ num 64 ⊗ x1 ⊗ x1 ⊗ z1 ⊗ t1 ⊗ x2 ⊗ y2 ⊗ d ⊖ num 32 ⊗ z1 ⊗ z1 ⊗ z1 ⊗ t1 ⊗ x2
      ⊗ y2 ⊗ d ⊖ num 16 ⊗ z1 ⊗ z1 ⊗ t1 ⊗ t1 ⊗ y2 ⊗ y2 ⊗ d ⊖ num 32 ⊗ z1 ⊗ t1 ⊗ t1 ⊗ t1 ⊗ x2 ⊗ y2 ⊗ d ⊗ d,
  equation_left Q,
  equation_right d Q,
) ∷ []

pub sum_equation : is_identity sum_equation_left sum_equation_right sum_equation_lines ≡ true
unfolding is_identity
sum_equation = refl

abbrev pub sum_product_left : Term
sum_product_left = product_left (sum_terms k P Q)

abbrev pub sum_product_right : Term
sum_product_right = product_right (sum_terms k P Q)

abbrev pub sum_product_lines : List (Term × Term × Term)
sum_product_lines = []

pub sum_product : is_identity sum_product_left sum_product_right sum_product_lines ≡ true
unfolding is_identity
sum_product = refl

abbrev pub complete_plus_one_left : Term
complete_plus_one_left = (num 2 ⊗ ((r ⊗ x1 ⊕ y1) ⊗ z2)) ⊗ (num 2 ⊗ ((r ⊗ x1 ⊕ y1) ⊗ z2))

abbrev pub complete_plus_one_right : Term
complete_plus_one_right = d ⊗ ((num 2 ⊗ (t1 ⊗ (r ⊗ x2 ⊕ y2))) ⊗ (num 2 ⊗ (t1 ⊗ (r ⊗ x2 ⊕ y2))))

abbrev pub complete_plus_one_lines : List (Term × Term × Term)
complete_plus_one_lines =
    (num 8 ⊗ z2 ⊗ z2 ⊗ r, product_left P, product_right P) ∷
    (num 4 ⊗ z2 ⊗ z2, equation_left P, equation_right d P) ∷
    (num 0 ⊖ num 8 ⊗ t1 ⊗ t1 ⊗ d ⊗ r, product_left Q, product_right Q) ∷
    (num 0 ⊖ num 4 ⊗ t1 ⊗ t1 ⊗ d, equation_left Q, equation_right d Q) ∷
    (num 4 ⊗ x1 ⊗ x1 ⊗ z2 ⊗ z2 ⊖ num 4 ⊗ t1 ⊗ t1 ⊗ x2 ⊗ x2 ⊗ d, r ⊗ r, num 0 ⊖ num 1) ∷
    (num 2 ⊗ z1 ⊗ z2 ⊕ num 4 ⊗ t1 ⊗ z2 ⊗ r ⊕ num 2 ⊗ t1 ⊗ t2 ⊗ d, f_term k P Q, num 0) ∷ []

pub complete_plus_one : is_identity complete_plus_one_left complete_plus_one_right complete_plus_one_lines ≡ true
unfolding is_identity
complete_plus_one = refl

abbrev pub complete_plus_other_left : Term
complete_plus_other_left = (num 2 ⊗ ((r ⊗ x1 ⊖ y1) ⊗ z2)) ⊗ (num 2 ⊗ ((r ⊗ x1 ⊖ y1) ⊗ z2))

abbrev pub complete_plus_other_right : Term
complete_plus_other_right = d ⊗ ((num 2 ⊗ (t1 ⊗ (r ⊗ x2 ⊖ y2))) ⊗ (num 2 ⊗ (t1 ⊗ (r ⊗ x2 ⊖ y2))))

abbrev pub complete_plus_other_lines : List (Term × Term × Term)
complete_plus_other_lines =
    (num 0 ⊖ num 8 ⊗ z2 ⊗ z2 ⊗ r, product_left P, product_right P) ∷
    (num 4 ⊗ z2 ⊗ z2, equation_left P, equation_right d P) ∷
    (num 8 ⊗ t1 ⊗ t1 ⊗ d ⊗ r, product_left Q, product_right Q) ∷
    (num 0 ⊖ num 4 ⊗ t1 ⊗ t1 ⊗ d, equation_left Q, equation_right d Q) ∷
    (num 4 ⊗ x1 ⊗ x1 ⊗ z2 ⊗ z2 ⊖ num 4 ⊗ t1 ⊗ t1 ⊗ x2 ⊗ x2 ⊗ d, r ⊗ r, num 0 ⊖ num 1) ∷
    (num 2 ⊗ z1 ⊗ z2 ⊕ num 2 ⊗ t1 ⊗ t2 ⊗ d ⊖ num 4 ⊗ t1 ⊗ z2 ⊗ r, f_term k P Q, num 0) ∷ []

pub complete_plus_other : is_identity complete_plus_other_left complete_plus_other_right complete_plus_other_lines ≡ true
unfolding is_identity
complete_plus_other = refl

abbrev pub first_plus_left : Term
first_plus_left = num 2 ⊗ (z1 ⊗ z2)

abbrev pub first_plus_right : Term
first_plus_right = num 0

abbrev pub first_plus_lines : List (Term × Term × Term)
first_plus_lines =
    (num 2 ⊗ t2 ⊗ d, t1, num 0) ∷
    (num 1, f_term k P Q, num 0) ∷ []

pub first_plus : is_identity first_plus_left first_plus_right first_plus_lines ≡ true
unfolding is_identity
first_plus = refl

abbrev pub second_plus_left : Term
second_plus_left = num 8 ⊗ (z1 ⊗ (z2 ⊗ z2))

abbrev pub second_plus_right : Term
second_plus_right = num 0

abbrev pub second_plus_lines : List (Term × Term × Term)
second_plus_lines =
    (num 0 ⊖ num 8 ⊗ t1 ⊗ d, product_left Q, product_right Q) ∷
    (num 8 ⊗ t1 ⊗ x2 ⊗ y2 ⊗ d, r ⊗ r, num 0 ⊖ num 1) ∷
    (num 4 ⊗ z2, f_term k P Q, num 0) ∷
    (num 0 ⊖ num 2 ⊗ t1 ⊗ x2 ⊗ d ⊗ r ⊗ r ⊖ num 2 ⊗ t1 ⊗ y2 ⊗ d ⊗ r, r ⊗ x2 ⊕ y2, num 0) ∷
    (num 2 ⊗ t1 ⊗ x2 ⊗ d ⊗ r ⊗ r ⊖ num 2 ⊗ t1 ⊗ y2 ⊗ d ⊗ r, r ⊗ x2 ⊖ y2, num 0) ∷ []

pub second_plus : is_identity second_plus_left second_plus_right second_plus_lines ≡ true
unfolding is_identity
second_plus = refl

abbrev pub complete_minus_one_left : Term
complete_minus_one_left = (num 2 ⊗ ((r ⊗ x1 ⊖ y1) ⊗ z2)) ⊗ (num 2 ⊗ ((r ⊗ x1 ⊖ y1) ⊗ z2))

abbrev pub complete_minus_one_right : Term
complete_minus_one_right = d ⊗ ((num 2 ⊗ (t1 ⊗ (r ⊗ x2 ⊕ y2))) ⊗ (num 2 ⊗ (t1 ⊗ (r ⊗ x2 ⊕ y2))))

abbrev pub complete_minus_one_lines : List (Term × Term × Term)
complete_minus_one_lines =
    (num 0 ⊖ num 8 ⊗ z2 ⊗ z2 ⊗ r, product_left P, product_right P) ∷
    (num 4 ⊗ z2 ⊗ z2, equation_left P, equation_right d P) ∷
    (num 0 ⊖ num 8 ⊗ t1 ⊗ t1 ⊗ d ⊗ r, product_left Q, product_right Q) ∷
    (num 0 ⊖ num 4 ⊗ t1 ⊗ t1 ⊗ d, equation_left Q, equation_right d Q) ∷
    (num 4 ⊗ x1 ⊗ x1 ⊗ z2 ⊗ z2 ⊖ num 4 ⊗ t1 ⊗ t1 ⊗ x2 ⊗ x2 ⊗ d, r ⊗ r, num 0 ⊖ num 1) ∷
    (num 2 ⊗ z1 ⊗ z2 ⊖ num 4 ⊗ t1 ⊗ z2 ⊗ r ⊖ num 2 ⊗ t1 ⊗ t2 ⊗ d, g_term k P Q, num 0) ∷ []

pub complete_minus_one : is_identity complete_minus_one_left complete_minus_one_right complete_minus_one_lines ≡ true
unfolding is_identity
complete_minus_one = refl

abbrev pub complete_minus_other_left : Term
complete_minus_other_left = (num 2 ⊗ ((r ⊗ x1 ⊕ y1) ⊗ z2)) ⊗ (num 2 ⊗ ((r ⊗ x1 ⊕ y1) ⊗ z2))

abbrev pub complete_minus_other_right : Term
complete_minus_other_right = d ⊗ ((num 2 ⊗ (t1 ⊗ (r ⊗ x2 ⊖ y2))) ⊗ (num 2 ⊗ (t1 ⊗ (r ⊗ x2 ⊖ y2))))

abbrev pub complete_minus_other_lines : List (Term × Term × Term)
complete_minus_other_lines =
    (num 8 ⊗ z2 ⊗ z2 ⊗ r, product_left P, product_right P) ∷
    (num 4 ⊗ z2 ⊗ z2, equation_left P, equation_right d P) ∷
    (num 8 ⊗ t1 ⊗ t1 ⊗ d ⊗ r, product_left Q, product_right Q) ∷
    (num 0 ⊖ num 4 ⊗ t1 ⊗ t1 ⊗ d, equation_left Q, equation_right d Q) ∷
    (num 4 ⊗ x1 ⊗ x1 ⊗ z2 ⊗ z2 ⊖ num 4 ⊗ t1 ⊗ t1 ⊗ x2 ⊗ x2 ⊗ d, r ⊗ r, num 0 ⊖ num 1) ∷
    (num 2 ⊗ z1 ⊗ z2 ⊕ num 4 ⊗ t1 ⊗ z2 ⊗ r ⊖ num 2 ⊗ t1 ⊗ t2 ⊗ d, g_term k P Q, num 0) ∷ []

pub complete_minus_other : is_identity complete_minus_other_left complete_minus_other_right complete_minus_other_lines ≡ true
unfolding is_identity
complete_minus_other = refl

abbrev pub first_minus_left : Term
first_minus_left = num 2 ⊗ (z1 ⊗ z2)

abbrev pub first_minus_right : Term
first_minus_right = num 0

abbrev pub first_minus_lines : List (Term × Term × Term)
first_minus_lines =
    (num 0 ⊖ num 2 ⊗ t2 ⊗ d, t1, num 0) ∷
    (num 1, g_term k P Q, num 0) ∷ []

pub first_minus : is_identity first_minus_left first_minus_right first_minus_lines ≡ true
unfolding is_identity
first_minus = refl

abbrev pub second_minus_left : Term
second_minus_left = num 8 ⊗ (z1 ⊗ (z2 ⊗ z2))

abbrev pub second_minus_right : Term
second_minus_right = num 0

abbrev pub second_minus_lines : List (Term × Term × Term)
second_minus_lines =
    (num 8 ⊗ t1 ⊗ d, product_left Q, product_right Q) ∷
    (num 0 ⊖ num 8 ⊗ t1 ⊗ x2 ⊗ y2 ⊗ d, r ⊗ r, num 0 ⊖ num 1) ∷
    (num 4 ⊗ z2, g_term k P Q, num 0) ∷
    (num 2 ⊗ t1 ⊗ x2 ⊗ d ⊗ r ⊗ r ⊕ num 2 ⊗ t1 ⊗ y2 ⊗ d ⊗ r, r ⊗ x2 ⊕ y2, num 0) ∷
    (num 2 ⊗ t1 ⊗ y2 ⊗ d ⊗ r ⊖ num 2 ⊗ t1 ⊗ x2 ⊗ d ⊗ r ⊗ r, r ⊗ x2 ⊖ y2, num 0) ∷ []

pub second_minus : is_identity second_minus_left second_minus_right second_minus_lines ≡ true
unfolding is_identity
second_minus = refl

abbrev pub double_f_left : Term
double_f_left = num 2 ⊗ double_f_term P

abbrev pub double_f_right : Term
double_f_right = f_term k P P

abbrev pub double_f_lines : List (Term × Term × Term)
double_f_lines =
    (num 0, product_left P, product_right P) ∷
    (num 0 ⊖ num 2, equation_left P, equation_right d P) ∷ []

pub double_f : is_identity double_f_left double_f_right double_f_lines ≡ true
unfolding is_identity
double_f = refl

abbrev pub double_g_left : Term
double_g_left = num 2 ⊗ double_g_term P

abbrev pub double_g_right : Term
double_g_right = num 0 ⊖ g_term k P P

abbrev pub double_g_lines : List (Term × Term × Term)
double_g_lines =
    (num 0, product_left P, product_right P) ∷
    (num 0 ⊖ num 2, equation_left P, equation_right d P) ∷ []

pub double_g : is_identity double_g_left double_g_right double_g_lines ≡ true
unfolding is_identity
double_g = refl

abbrev pub double_x_left : Term
double_x_left = double_e_term P ⊗ g_term k P P

abbrev pub double_x_right : Term
double_x_right = e_term P P ⊗ double_g_term P

abbrev pub double_x_lines : List (Term × Term × Term)
double_x_lines =
    (num 0, product_left P, product_right P) ∷
    (num 4 ⊗ x1 ⊗ y1, equation_left P, equation_right d P) ∷ []

pub double_x : is_identity double_x_left double_x_right double_x_lines ≡ true
unfolding is_identity
double_x = refl

abbrev pub double_y_left : Term
double_y_left = double_h_term P ⊗ f_term k P P

abbrev pub double_y_right : Term
double_y_right = h_term P P ⊗ double_f_term P

abbrev pub double_y_lines : List (Term × Term × Term)
double_y_lines =
    (num 0, product_left P, product_right P) ∷
    (num 2 ⊗ x1 ⊗ x1 ⊕ num 2 ⊗ y1 ⊗ y1, equation_left P, equation_right d P) ∷ []

pub double_y : is_identity double_y_left double_y_right double_y_lines ≡ true
unfolding is_identity
double_y = refl

abbrev pub double_equation_left : Term
double_equation_left = equation_left (double_terms P)

abbrev pub double_equation_right : Term
double_equation_right = equation_right d (double_terms P)

abbrev pub double_equation_lines : List (Term × Term × Term)
double_equation_lines = (
  num 0 ⊖ num 16 ⊗ x1 ⊗ x1 ⊗ x1 ⊗ x1 ⊗ x1 ⊗ y1 ⊗ d ⊖ num 16 ⊗ x1 ⊗ x1 ⊗ x1 ⊗ x1 ⊗ z1 ⊗ t1 ⊗ d ⊖ num 16 ⊗ x1 ⊗ x1 ⊗ x1
      ⊗ y1 ⊗ z1 ⊗ z1 ⊗ d ⊖ num 16 ⊗ x1 ⊗ x1 ⊗ x1 ⊗ y1 ⊗ t1 ⊗ t1 ⊗ d ⊗ d ⊖ num 16 ⊗ x1 ⊗ x1 ⊗ z1 ⊗ z1 ⊗ z1 ⊗ t1 ⊗ d ⊖
      num 16 ⊗ x1 ⊗ x1 ⊗ z1 ⊗ t1 ⊗ t1 ⊗ t1 ⊗ d ⊗ d ⊖ num 4 ⊗ x1 ⊗ y1 ⊗ z1 ⊗ z1 ⊗ z1 ⊗ z1 ⊗ d ⊖ num 8 ⊗ x1 ⊗ y1 ⊗ z1 ⊗
      z1 ⊗ t1 ⊗ t1 ⊗ d ⊗ d ⊖ num 4 ⊗ x1 ⊗ y1 ⊗ t1 ⊗ t1 ⊗ t1 ⊗ t1 ⊗ d ⊗ d ⊗ d ⊖ num 4 ⊗ z1 ⊗ z1 ⊗ z1 ⊗ z1 ⊗ z1 ⊗ t1 ⊗ d
      ⊖ num 8 ⊗ z1 ⊗ z1 ⊗ z1 ⊗ t1 ⊗ t1 ⊗ t1 ⊗ d ⊗ d ⊖ num 4 ⊗ z1 ⊗ t1 ⊗ t1 ⊗ t1 ⊗ t1 ⊗ t1 ⊗ d ⊗ d ⊗ d,
  product_left P,
  product_right P,
) ∷ (
  num 4 ⊗ x1 ⊗ x1 ⊗ x1 ⊗ x1 ⊗ z1 ⊗ z1 ⊕ num 8 ⊗ x1 ⊗ x1 ⊗ y1 ⊗ y1 ⊗ z1 ⊗ z1 ⊕ num 12 ⊗ x1 ⊗ x1 ⊗ z1 ⊗ z1 ⊗ t1 ⊗ t1 ⊗
      d ⊕ num 4 ⊗ y1 ⊗ y1 ⊗ y1 ⊗ y1 ⊗ z1 ⊗ z1 ⊕ num 4 ⊗ y1 ⊗ y1 ⊗ z1 ⊗ z1 ⊗ t1 ⊗ t1 ⊗ d ⊕ num 4 ⊗ z1 ⊗ z1 ⊗ z1 ⊗ z1 ⊗
      t1 ⊗ t1 ⊗ d ⊕ num 4 ⊗ z1 ⊗ z1 ⊗ t1 ⊗ t1 ⊗ t1 ⊗ t1 ⊗ d ⊗ d ⊖ num 12 ⊗ x1 ⊗ x1 ⊗ x1 ⊗ x1 ⊗ y1 ⊗ y1 ⊗ d ⊖ num 4 ⊗
      x1 ⊗ x1 ⊗ y1 ⊗ y1 ⊗ y1 ⊗ y1 ⊗ d ⊖ num 4 ⊗ x1 ⊗ x1 ⊗ y1 ⊗ y1 ⊗ z1 ⊗ z1 ⊗ d ⊖ num 4 ⊗ x1 ⊗ x1 ⊗ y1 ⊗ y1 ⊗ t1 ⊗ t1
      ⊗ d ⊗ d,
  equation_left P,
  equation_right d P,
) ∷ []

pub double_equation : is_identity double_equation_left double_equation_right double_equation_lines ≡ true
unfolding is_identity
double_equation = refl

abbrev pub double_product_left : Term
double_product_left = product_left (double_terms P)

abbrev pub double_product_right : Term
double_product_right = product_right (double_terms P)

abbrev pub double_product_lines : List (Term × Term × Term)
double_product_lines = []

pub double_product : is_identity double_product_left double_product_right double_product_lines ≡ true
unfolding is_identity
double_product = refl

abbrev pub same_t_left : Term
same_t_left = (z1 ⊗ z2) ⊗ (t1 ⊗ z2)

abbrev pub same_t_right : Term
same_t_right = (z1 ⊗ z2) ⊗ (t2 ⊗ z1)

abbrev pub same_t_lines : List (Term × Term × Term)
same_t_lines =
    (num 0 ⊖ z2 ⊗ z2, product_left P, product_right P) ∷
    (num 0, equation_left P, equation_right d P) ∷
    (z1 ⊗ z1, product_left Q, product_right Q) ∷
    (num 0, equation_left Q, equation_right d Q) ∷
    (z1 ⊗ y2, x1 ⊗ z2, x2 ⊗ z1) ∷
    (x1 ⊗ z2, y1 ⊗ z2, y2 ⊗ z1) ∷ []

pub same_t : is_identity same_t_left same_t_right same_t_lines ≡ true
unfolding is_identity
same_t = refl

abbrev pub same_x_left : Term
same_x_left = (z1 ⊗ z2) ⊗ (e_term P R ⊗ g_term k Q R)

abbrev pub same_x_right : Term
same_x_right = (z1 ⊗ z2) ⊗ (e_term Q R ⊗ g_term k P R)

abbrev pub same_x_lines : List (Term × Term × Term)
same_x_lines =
    (num 4 ⊗ z1 ⊗ z2 ⊗ y3 ⊗ z3 ⊕ num 4 ⊗ z1 ⊗ t2 ⊗ y3 ⊗ t3 ⊗ d, x1 ⊗ z2, x2 ⊗ z1) ∷
    (num 4 ⊗ z1 ⊗ z2 ⊗ x3 ⊗ z3 ⊕ num 4 ⊗ z1 ⊗ t2 ⊗ x3 ⊗ t3 ⊗ d, y1 ⊗ z2, y2 ⊗ z1) ∷
    (num 0 ⊖ num 4 ⊗ z1 ⊗ x2 ⊗ y3 ⊗ t3 ⊗ d ⊖ num 4 ⊗ z1 ⊗ y2 ⊗ x3 ⊗ t3 ⊗ d, t1 ⊗ z2, t2 ⊗ z1) ∷ []

pub same_x : is_identity same_x_left same_x_right same_x_lines ≡ true
unfolding is_identity
same_x = refl

abbrev pub same_y_left : Term
same_y_left = (z1 ⊗ z2) ⊗ (h_term P R ⊗ f_term k Q R)

abbrev pub same_y_right : Term
same_y_right = (z1 ⊗ z2) ⊗ (h_term Q R ⊗ f_term k P R)

abbrev pub same_y_lines : List (Term × Term × Term)
same_y_lines =
    (num 4 ⊗ z1 ⊗ z2 ⊗ x3 ⊗ z3 ⊖ num 4 ⊗ z1 ⊗ t2 ⊗ x3 ⊗ t3 ⊗ d, x1 ⊗ z2, x2 ⊗ z1) ∷
    (num 4 ⊗ z1 ⊗ z2 ⊗ y3 ⊗ z3 ⊖ num 4 ⊗ z1 ⊗ t2 ⊗ y3 ⊗ t3 ⊗ d, y1 ⊗ z2, y2 ⊗ z1) ∷
    (num 4 ⊗ z1 ⊗ x2 ⊗ x3 ⊗ t3 ⊗ d ⊕ num 4 ⊗ z1 ⊗ y2 ⊗ y3 ⊗ t3 ⊗ d, t1 ⊗ z2, t2 ⊗ z1) ∷ []

pub same_y : is_identity same_y_left same_y_right same_y_lines ≡ true
unfolding is_identity
same_y = refl

abbrev pub along_left : Term
along_left = z2 ⊗ (x1 ⊗ z3)

abbrev pub along_right : Term
along_right = z2 ⊗ (x3 ⊗ z1)

abbrev pub along_lines : List (Term × Term × Term)
along_lines =
    (z3, x1 ⊗ z2, x2 ⊗ z1) ∷
    (z1, x2 ⊗ z3, x3 ⊗ z2) ∷ []

pub along : is_identity along_left along_right along_lines ≡ true
unfolding is_identity
along = refl

abbrev pub ratio_x_left : Term
ratio_x_left = x1 ⊗ y1 ⊗ (y2 ⊗ z2)

abbrev pub ratio_x_right : Term
ratio_x_right = x2 ⊗ y2 ⊗ (y1 ⊗ z1)

abbrev pub ratio_x_lines : List (Term × Term × Term)
ratio_x_lines =
    (y1 ⊗ y2, x1 ⊗ z2, x2 ⊗ z1) ∷ []

pub ratio_x : is_identity ratio_x_left ratio_x_right ratio_x_lines ≡ true
unfolding is_identity
ratio_x = refl

abbrev pub ratio_y_left : Term
ratio_y_left = z1 ⊗ t1 ⊗ (y2 ⊗ z2)

abbrev pub ratio_y_right : Term
ratio_y_right = z2 ⊗ t2 ⊗ (y1 ⊗ z1)

abbrev pub ratio_y_lines : List (Term × Term × Term)
ratio_y_lines =
    (z1 ⊗ z2, t1 ⊗ y2, t2 ⊗ y1) ∷ []

pub ratio_y : is_identity ratio_y_left ratio_y_right ratio_y_lines ≡ true
unfolding is_identity
ratio_y = refl

abbrev pub swap_e_left : Term
swap_e_left = e_term P Q

abbrev pub swap_e_right : Term
swap_e_right = e_term Q P

abbrev pub swap_e_lines : List (Term × Term × Term)
swap_e_lines = []

pub swap_e : is_identity swap_e_left swap_e_right swap_e_lines ≡ true
unfolding is_identity
swap_e = refl

abbrev pub swap_f_left : Term
swap_f_left = f_term k P Q

abbrev pub swap_f_right : Term
swap_f_right = f_term k Q P

abbrev pub swap_f_lines : List (Term × Term × Term)
swap_f_lines = []

pub swap_f : is_identity swap_f_left swap_f_right swap_f_lines ≡ true
unfolding is_identity
swap_f = refl

abbrev pub swap_g_left : Term
swap_g_left = g_term k P Q

abbrev pub swap_g_right : Term
swap_g_right = g_term k Q P

abbrev pub swap_g_lines : List (Term × Term × Term)
swap_g_lines = []

pub swap_g : is_identity swap_g_left swap_g_right swap_g_lines ≡ true
unfolding is_identity
swap_g = refl

abbrev pub swap_h_left : Term
swap_h_left = h_term P Q

abbrev pub swap_h_right : Term
swap_h_right = h_term Q P

abbrev pub swap_h_lines : List (Term × Term × Term)
swap_h_lines = []

pub swap_h : is_identity swap_h_left swap_h_right swap_h_lines ≡ true
unfolding is_identity
swap_h = refl

abbrev pub N : Points
N = record { x = num 0; y = num 1; z = num 1; t = num 0 }

abbrev pub neutral_x_left : Term
neutral_x_left = (sum_terms k P N).x ⊗ z1

abbrev pub neutral_x_right : Term
neutral_x_right = x1 ⊗ (sum_terms k P N).z

abbrev pub neutral_x_lines : List (Term × Term × Term)
neutral_x_lines = []

pub neutral_x : is_identity neutral_x_left neutral_x_right neutral_x_lines ≡ true
unfolding is_identity
neutral_x = refl

abbrev pub neutral_y_left : Term
neutral_y_left = (sum_terms k P N).y ⊗ z1

abbrev pub neutral_y_right : Term
neutral_y_right = y1 ⊗ (sum_terms k P N).z

abbrev pub neutral_y_lines : List (Term × Term × Term)
neutral_y_lines = []

pub neutral_y : is_identity neutral_y_left neutral_y_right neutral_y_lines ≡ true
unfolding is_identity
neutral_y = refl

abbrev pub M : Points
M = record { x = num 0 ⊖ x1; y = y1; z = z1; t = num 0 ⊖ t1 }

abbrev pub inverse_x_left : Term
inverse_x_left = (sum_terms k P M).x ⊗ num 1

abbrev pub inverse_x_right : Term
inverse_x_right = num 0 ⊗ (sum_terms k P M).z

abbrev pub inverse_x_lines : List (Term × Term × Term)
inverse_x_lines = []

pub inverse_x : is_identity inverse_x_left inverse_x_right inverse_x_lines ≡ true
unfolding is_identity
inverse_x = refl

abbrev pub inverse_y_left : Term
inverse_y_left = (sum_terms k P M).y ⊗ num 1

abbrev pub inverse_y_right : Term
inverse_y_right = num 1 ⊗ (sum_terms k P M).z

abbrev pub inverse_y_lines : List (Term × Term × Term)
inverse_y_lines =
    (num 0, product_left P, product_right P) ∷
    (num 4 ⊗ z1 ⊗ z1 ⊖ num 4 ⊗ t1 ⊗ t1 ⊗ d, equation_left P, equation_right d P) ∷ []

pub inverse_y : is_identity inverse_y_left inverse_y_right inverse_y_lines ≡ true
unfolding is_identity
inverse_y = refl

abbrev pub inverse_product_left : Term
inverse_product_left = product_left M

abbrev pub inverse_product_right : Term
inverse_product_right = product_right M

abbrev pub inverse_product_lines : List (Term × Term × Term)
inverse_product_lines =
    (num 0 ⊖ num 1, product_left P, product_right P) ∷
    (num 0, equation_left P, equation_right d P) ∷ []

pub inverse_product : is_identity inverse_product_left inverse_product_right inverse_product_lines ≡ true
unfolding is_identity
inverse_product = refl

abbrev pub inverse_equation_left : Term
inverse_equation_left = equation_left M

abbrev pub inverse_equation_right : Term
inverse_equation_right = equation_right d M

abbrev pub inverse_equation_lines : List (Term × Term × Term)
inverse_equation_lines =
    (num 0, product_left P, product_right P) ∷
    (num 1, equation_left P, equation_right d P) ∷ []

pub inverse_equation : is_identity inverse_equation_left inverse_equation_right inverse_equation_lines ≡ true
unfolding is_identity
inverse_equation = refl

abbrev pub inverse_same_x_left : Term
inverse_same_x_left = (num 0 ⊖ x1) ⊗ z2

abbrev pub inverse_same_x_right : Term
inverse_same_x_right = (num 0 ⊖ x2) ⊗ z1

abbrev pub inverse_same_x_lines : List (Term × Term × Term)
inverse_same_x_lines =
    (num 0 ⊖ num 1, x1 ⊗ z2, x2 ⊗ z1) ∷ []

pub inverse_same_x : is_identity inverse_same_x_left inverse_same_x_right inverse_same_x_lines ≡ true
unfolding is_identity
inverse_same_x = refl

abbrev pub neutral_equation_left : Term
neutral_equation_left = equation_left N

abbrev pub neutral_equation_right : Term
neutral_equation_right = equation_right d N

abbrev pub neutral_equation_lines : List (Term × Term × Term)
neutral_equation_lines = []

pub neutral_equation : is_identity neutral_equation_left neutral_equation_right neutral_equation_lines ≡ true
unfolding is_identity
neutral_equation = refl

abbrev pub double_f_none_left : Term
double_f_none_left = f_term k P P

abbrev pub double_f_none_right : Term
double_f_none_right = num 0

abbrev pub double_f_none_lines : List (Term × Term × Term)
double_f_none_lines =
    (num 0, product_left P, product_right P) ∷
    (num 2, equation_left P, equation_right d P) ∷
    (num 2, double_f_term P, num 0) ∷ []

pub double_f_none : is_identity double_f_none_left double_f_none_right double_f_none_lines ≡ true
unfolding is_identity
double_f_none = refl

abbrev pub double_g_none_left : Term
double_g_none_left = g_term k P P

abbrev pub double_g_none_right : Term
double_g_none_right = num 0

abbrev pub double_g_none_lines : List (Term × Term × Term)
double_g_none_lines =
    (num 0, product_left P, product_right P) ∷
    (num 0 ⊖ num 2, equation_left P, equation_right d P) ∷
    (num 0 ⊖ num 2, double_g_term P, num 0) ∷ []

pub double_g_none : is_identity double_g_none_left double_g_none_right double_g_none_lines ≡ true
unfolding is_identity
double_g_none = refl

abbrev pub less_same_left : Term
less_same_left = x1 ⊗ (y1 ⊖ z1)

abbrev pub less_same_right : Term
less_same_right = num 0

abbrev pub less_same_lines : List (Term × Term × Term)
less_same_lines =
    (num 1, x1 ⊗ y1, x1 ⊗ z1) ∷ []

pub less_same : is_identity less_same_left less_same_right less_same_lines ≡ true
unfolding is_identity
less_same = refl

abbrev pub addend_c_left : Term
addend_c_left = t1 ⊗ (d ⊗ t2)

abbrev pub addend_c_right : Term
addend_c_right = t1 ⊗ d ⊗ t2

abbrev pub addend_c_lines : List (Term × Term × Term)
addend_c_lines = []

pub addend_c : is_identity addend_c_left addend_c_right addend_c_lines ≡ true
unfolding is_identity
addend_c = refl

abbrev pub addend_d_left : Term
addend_d_left = z1 ⊗ (z2 ⊕ z2)

abbrev pub addend_d_right : Term
addend_d_right = (z1 ⊕ z1) ⊗ z2

abbrev pub addend_d_lines : List (Term × Term × Term)
addend_d_lines = []

pub addend_d : is_identity addend_d_left addend_d_right addend_d_lines ≡ true
unfolding is_identity
addend_d = refl

abbrev pub D : Points
D = record { x = x1; y = y1; z = num 1; t = x1 ⊗ y1 }

abbrev pub decoded_product_left : Term
decoded_product_left = product_left D

abbrev pub decoded_product_right : Term
decoded_product_right = product_right D

abbrev pub decoded_product_lines : List (Term × Term × Term)
decoded_product_lines = []

pub decoded_product : is_identity decoded_product_left decoded_product_right decoded_product_lines ≡ true
unfolding is_identity
decoded_product = refl

abbrev pub decoded_equation_left : Term
decoded_equation_left = equation_left D

abbrev pub decoded_equation_right : Term
decoded_equation_right = equation_right d D

abbrev pub decoded_equation_lines : List (Term × Term × Term)
decoded_equation_lines =
    (num 0 ⊖ num 1, (d ⊗ (y1 ⊗ y1) ⊕ num 1) ⊗ (x1 ⊗ x1), (y1 ⊗ y1 ⊖ num 1)) ∷ []

pub decoded_equation : is_identity decoded_equation_left decoded_equation_right decoded_equation_lines ≡ true
unfolding is_identity
decoded_equation = refl

abbrev pub root_turned_left : Term
root_turned_left = (d ⊗ (y1 ⊗ y1) ⊕ num 1) ⊗ (x1 ⊗ r ⊗ (x1 ⊗ r))

abbrev pub root_turned_right : Term
root_turned_right = (y1 ⊗ y1 ⊖ num 1)

abbrev pub root_turned_lines : List (Term × Term × Term)
root_turned_lines =
    (num 0 ⊖ num 1, (d ⊗ (y1 ⊗ y1) ⊕ num 1) ⊗ (x1 ⊗ x1), num 0 ⊖ (y1 ⊗ y1 ⊖ num 1)) ∷
    (x1 ⊗ x1 ⊗ y1 ⊗ y1 ⊗ d ⊕ x1 ⊗ x1, r ⊗ r, num 0 ⊖ num 1) ∷ []

pub root_turned : is_identity root_turned_left root_turned_right root_turned_lines ≡ true
unfolding is_identity
root_turned = refl

abbrev pub root_negative_left : Term
root_negative_left = (d ⊗ (y1 ⊗ y1) ⊕ num 1) ⊗ ((num 0 ⊖ x1) ⊗ (num 0 ⊖ x1))

abbrev pub root_negative_right : Term
root_negative_right = (d ⊗ (y1 ⊗ y1) ⊕ num 1) ⊗ (x1 ⊗ x1)

abbrev pub root_negative_lines : List (Term × Term × Term)
root_negative_lines = []

pub root_negative : is_identity root_negative_left root_negative_right root_negative_lines ≡ true
unfolding is_identity
root_negative = refl
