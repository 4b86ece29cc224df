-- The host's product for a partner's C program (01, head: elements are 4 bytes each, big-endian, lengths count bytes, and a
-- returned 0 means done; "What is turned down", Product).
-- n is a modulus number; a, b and out are bytes, and the output has room for so many.
--
--   host_tests n rows inner columns a b room == the tests of the product on bytes: 1, 2, 6, 13, 14
--   host_product n rows inner columns a b    == the product of the shares that the bytes hold, as bytes
--   host_after n rows inner columns a b out  == what the output then holds
use Rattle.std.specs.Prelude.{List, ℕ, ◌*◌, length}
use Rattle.refusal.specs.Chain.{Test, unless_refused}
use Rattle.field.specs.Modulus.{modulus}
use Rattle.message_bytes.specs.Bytes.{bytes_of, elements_of}
use Rattle.product.specs.Product.{product_of, tests_by_size}

unfoldable pub host_tests : ℕ → ℕ → ℕ → ℕ → List ℕ → List ℕ → ℕ → List Test
host_tests n rows inner columns a b room =
    tests_by_size (λ k. 4 * k) n rows inner columns (elements_of (rows * inner) a) (elements_of (inner * columns) b) (length a) (length b) room

unfoldable pub host_product : ℕ → ℕ → ℕ → ℕ → List ℕ → List ℕ → List ℕ
host_product n rows inner columns a b =
    bytes_of (product_of (modulus n) rows inner columns (elements_of (rows * inner) a) (elements_of (inner * columns) b))

unfoldable pub host_after : ℕ → ℕ → ℕ → ℕ → List ℕ → List ℕ → List ℕ → List ℕ
host_after n rows inner columns a b out =
    unless_refused (host_tests n rows inner columns a b (length out)) (host_product n rows inner columns a b) out
