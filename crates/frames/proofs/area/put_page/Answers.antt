use Rattle.std.proofs.Common.{◌≡◌, ◌+◌, ◌-◌, [], ◌∷◌, take, drop, length, map, ap, refl, arith}
use Rattle.std.proofs.lemmas.List.{length-take-le, length-drop, take_rest}
use Rattle.frames.specs.Hex.{hex_of}
use Rattle.frames.specs.Replies.{key_byte, weight_bytes}
use Rattle.frames.proofs.Appending.{put_end, put_as, put_pages, length-page_line, length-key_line, length-weight_line}
use Rattle.frames.proofs.area.put_page.Goals as goal

pub returns-then-out-at : goal.returns-then-out-at
returns-then-out-at c = (refl, omega (arith, length-page_line c.args.keys c.args.cells.now c.requires.keys))

pub put_keys-keyed-requires : goal.put_keys-keyed-requires
put_keys-keyed-requires c =
    omega (
      arith,
      length-take-le c.args.keys c.args.cells.now c.requires.keys,
      put_end c.args.at c.put_bytes-shown.result (0x38 ∷ (0x34 ∷ (0x30 ∷ (0x30 ∷ [])))) c.args.out.now c.put_bytes-shown.new.out c.requires.at_in c.put_bytes-shown.ensures,
    )

pub put_weights-end-requires : goal.put_weights-end-requires
put_weights-end-requires c =
    let shown : c.put_bytes-shown.result ≡ c.args.at + 4 =
    put_end c.args.at c.put_bytes-shown.result (0x38 ∷ (0x34 ∷ (0x30 ∷ (0x30 ∷ [])))) c.args.out.now c.put_bytes-shown.new.out c.requires.at_in c.put_bytes-shown.ensures in
    let keyed : c.put_keys-keyed.result ≡ c.put_bytes-shown.result + length (hex_of (map key_byte (take c.args.keys c.args.cells.now))) =
    put_end c.put_bytes-shown.result c.put_keys-keyed.result _ c.put_bytes-shown.new.out c.put_keys-keyed.new.out c.put_bytes-shown.ensures.within c.put_keys-keyed.ensures in
    omega (arith, shown, keyed, length-key_line c.args.keys c.args.cells.now c.requires.keys, ap length (take_rest c.args.cells.now c.args.keys), length-drop c.args.keys c.args.cells.now)

pub bounds-out-end : goal.bounds-out-end
bounds-out-end c =
    let shown : c.put_bytes-shown.result ≡ c.args.at + 4 =
    put_end c.args.at c.put_bytes-shown.result (0x38 ∷ (0x34 ∷ (0x30 ∷ (0x30 ∷ [])))) c.args.out.now c.put_bytes-shown.new.out c.requires.at_in c.put_bytes-shown.ensures in
    let keyed : c.put_keys-keyed.result ≡ c.put_bytes-shown.result + length (hex_of (map key_byte (take c.args.keys c.args.cells.now))) =
    put_end c.put_bytes-shown.result c.put_keys-keyed.result _ c.put_bytes-shown.new.out c.put_keys-keyed.new.out c.put_bytes-shown.ensures.within c.put_keys-keyed.ensures in
    let weighed : c.put_weights-end.result ≡ c.put_keys-keyed.result + length (hex_of (weight_bytes (take (length c.args.cells.now - c.args.keys) (drop c.args.keys c.args.cells.now)))) =
    put_end c.put_keys-keyed.result c.put_weights-end.result _ c.put_keys-keyed.new.out c.put_weights-end.new.out c.put_keys-keyed.ensures.within c.put_weights-end.ensures in
    omega (
      arith,
      shown,
      keyed,
      weighed,
      length-key_line c.args.keys c.args.cells.now c.requires.keys,
      length-weight_line (take (length c.args.cells.now - c.args.keys) (drop c.args.keys c.args.cells.now)),
      ap length (take_rest c.args.cells.now c.args.keys),
      length-drop c.args.keys c.args.cells.now,
    )

pub returns : goal.returns
returns c =
    let ws : take (length c.args.cells.now - c.args.keys) (drop c.args.keys c.args.cells.now) ≡ drop c.args.keys c.args.cells.now = take_rest c.args.cells.now c.args.keys in
    put_pages c.args.at c.put_bytes-shown.result c.put_keys-keyed.result c.put_weights-end.result c.args.keys c.args.cells.now
    c.args.out.now c.put_bytes-shown.new.out c.put_keys-keyed.new.out c.put_weights-end.new.out
    c.put_bytes-shown.ensures c.put_keys-keyed.ensures
    (put_as c.put_keys-keyed.result c.put_weights-end.result _ _ c.put_keys-keyed.new.out c.put_weights-end.new.out (ap (λ zs. hex_of (weight_bytes zs)) ws) c.put_weights-end.ensures)
    (bounds-out-end c)
