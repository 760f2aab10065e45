-- Encodings of points.
use Rattle.std.specs.Prelude.{◌≡◌, ℕ, List, Some}
use Rattle.edwards.specs.Edwards.{Point, AreSame}
use Rattle.ed25519.specs.Ed25519.{p, decoded, IsEquation}

-- the bytes encode the point that Q stands for: it is the one that they are decoded to (RFC 8032 sections 5.1.2 and 5.1.3)
pub record IsEncoding (bytes : List ℕ) (Q : Point) : Type 0 where
  pub point : Point
  pub decodes : decoded bytes ≡ Some point
  pub same : AreSame p Q point

-- the bytes are decoded to an R for which the equation holds (RFC 8032 section 5.1.7 step 3)
pub record IsCommitment (key : Point) (s challenge : ℕ) (bytes : List ℕ) : Type 0 where
  pub commitment : Point
  pub decodes : decoded bytes ≡ Some commitment
  pub equation : IsEquation key commitment s challenge
