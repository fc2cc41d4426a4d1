-- The 32 visible colour lists, BLUES to PASTEL2, in their order: palette numbers 0 to 31 (docs/RULES.md, "Colours and ramps"). Definitions only.
use Rattle.std.specs.Prelude.{ℕ, length, take, get_or}
use mathlib.Core.List.{List, [], ◌∷◌, flatten}
use Rattle.color.specs.Word.{word_of}

-- an opaque colour
abbrev pub rgb : ℕ → ℕ → ℕ → ℕ
rgb r g b = word_of (record { r = r; g = g; b = b; a = 255 })

abbrev pub blues : List ℕ
blues =
    rgb 247 251 255 ∷ rgb 222 235 247 ∷ rgb 198 219 239 ∷ rgb 158 202 225 ∷ rgb 107 174 214 ∷ rgb 66 146 198 ∷ rgb 33 113 181 ∷ rgb 8 81 156 ∷ rgb 8 48 107 ∷ []

abbrev pub br_bg : List ℕ
br_bg =
    rgb 84 48 5 ∷ rgb 140 81 10 ∷ rgb 191 129 45 ∷ rgb 223 194 125 ∷ rgb 246 232 195 ∷ rgb 245 245 245 ∷ rgb 199 234 229 ∷ rgb 128 205 193 ∷ rgb 53 151 143 ∷
    rgb 1 102 94 ∷ rgb 0 60 48 ∷ []

abbrev pub bu_gn : List ℕ
bu_gn =
    rgb 247 252 253 ∷ rgb 229 245 249 ∷ rgb 204 236 230 ∷ rgb 153 216 201 ∷ rgb 102 194 164 ∷ rgb 65 174 118 ∷ rgb 35 139 69 ∷ rgb 0 109 44 ∷ rgb 0 68 27 ∷ []

abbrev pub bu_pu : List ℕ
bu_pu =
    rgb 247 252 253 ∷ rgb 224 236 244 ∷ rgb 191 211 230 ∷ rgb 158 188 218 ∷ rgb 140 150 198 ∷ rgb 140 107 177 ∷ rgb 136 65 157 ∷ rgb 129 15 124 ∷ rgb 77 0 75 ∷
    []

abbrev pub gn_bu : List ℕ
gn_bu =
    rgb 247 252 240 ∷ rgb 224 243 219 ∷ rgb 204 235 197 ∷ rgb 168 221 181 ∷ rgb 123 204 196 ∷ rgb 78 179 211 ∷ rgb 43 140 190 ∷ rgb 8 104 172 ∷ rgb 8 64 129 ∷
    []

abbrev pub greens : List ℕ
greens =
    rgb 247 252 245 ∷ rgb 229 245 224 ∷ rgb 199 233 192 ∷ rgb 161 217 155 ∷ rgb 116 196 118 ∷ rgb 65 171 93 ∷ rgb 35 139 69 ∷ rgb 0 109 44 ∷ rgb 0 68 27 ∷ []

abbrev pub greys : List ℕ
greys =
    rgb 255 255 255 ∷ rgb 240 240 240 ∷ rgb 217 217 217 ∷ rgb 189 189 189 ∷ rgb 150 150 150 ∷ rgb 115 115 115 ∷ rgb 82 82 82 ∷ rgb 37 37 37 ∷ rgb 0 0 0 ∷ []

abbrev pub oranges : List ℕ
oranges =
    rgb 255 245 235 ∷ rgb 254 230 206 ∷ rgb 253 208 162 ∷ rgb 253 174 107 ∷ rgb 253 141 60 ∷ rgb 241 105 19 ∷ rgb 217 72 1 ∷ rgb 166 54 3 ∷ rgb 127 39 4 ∷ []

abbrev pub or_rd : List ℕ
or_rd =
    rgb 255 247 236 ∷ rgb 254 232 200 ∷ rgb 253 212 158 ∷ rgb 253 187 132 ∷ rgb 252 141 89 ∷ rgb 239 101 72 ∷ rgb 215 48 31 ∷ rgb 179 0 0 ∷ rgb 127 0 0 ∷ []

abbrev pub pi_yg : List ℕ
pi_yg =
    rgb 142 1 82 ∷ rgb 197 27 125 ∷ rgb 222 119 174 ∷ rgb 241 182 218 ∷ rgb 253 224 239 ∷ rgb 247 247 247 ∷ rgb 230 245 208 ∷ rgb 184 225 134 ∷ rgb 127 188 65 ∷
    rgb 77 146 33 ∷ rgb 39 100 25 ∷ []

abbrev pub pr_gn : List ℕ
pr_gn =
    rgb 64 0 75 ∷ rgb 118 42 131 ∷ rgb 153 112 171 ∷ rgb 194 165 207 ∷ rgb 231 212 232 ∷ rgb 247 247 247 ∷ rgb 217 240 211 ∷ rgb 166 219 160 ∷ rgb 90 174 97 ∷
    rgb 27 120 55 ∷ rgb 0 68 27 ∷ []

abbrev pub pu_bu : List ℕ
pu_bu =
    rgb 255 247 251 ∷ rgb 236 231 242 ∷ rgb 208 209 230 ∷ rgb 166 189 219 ∷ rgb 116 169 207 ∷ rgb 54 144 192 ∷ rgb 5 112 176 ∷ rgb 4 90 141 ∷ rgb 2 56 88 ∷ []

abbrev pub pu_bu_gn : List ℕ
pu_bu_gn =
    rgb 255 247 251 ∷ rgb 236 226 240 ∷ rgb 208 209 230 ∷ rgb 166 189 219 ∷ rgb 103 169 207 ∷ rgb 54 144 192 ∷ rgb 2 129 138 ∷ rgb 1 108 89 ∷ rgb 1 70 54 ∷ []

abbrev pub pu_or : List ℕ
pu_or =
    rgb 127 59 8 ∷ rgb 179 88 6 ∷ rgb 224 130 20 ∷ rgb 253 184 99 ∷ rgb 254 224 182 ∷ rgb 247 247 247 ∷ rgb 216 218 235 ∷ rgb 178 171 210 ∷ rgb 128 115 172 ∷
    rgb 84 39 136 ∷ rgb 45 0 75 ∷ []

abbrev pub pu_rd : List ℕ
pu_rd =
    rgb 247 244 249 ∷ rgb 231 225 239 ∷ rgb 212 185 218 ∷ rgb 201 148 199 ∷ rgb 223 101 176 ∷ rgb 231 41 138 ∷ rgb 206 18 86 ∷ rgb 152 0 67 ∷ rgb 103 0 31 ∷ []

abbrev pub purples : List ℕ
purples =
    rgb 252 251 253 ∷ rgb 239 237 245 ∷ rgb 218 218 235 ∷ rgb 188 189 220 ∷ rgb 158 154 200 ∷ rgb 128 125 186 ∷ rgb 106 81 163 ∷ rgb 84 39 143 ∷ rgb 63 0 125 ∷
    []

-- the nine colours of PURPLES, as in the Rust and unlike ColorBrewer
abbrev pub rd_bu : List ℕ
rd_bu =
    rgb 252 251 253 ∷ rgb 239 237 245 ∷ rgb 218 218 235 ∷ rgb 188 189 220 ∷ rgb 158 154 200 ∷ rgb 128 125 186 ∷ rgb 106 81 163 ∷ rgb 84 39 143 ∷ rgb 63 0 125 ∷
    []

abbrev pub rd_gy : List ℕ
rd_gy =
    rgb 103 0 31 ∷ rgb 178 24 43 ∷ rgb 214 96 77 ∷ rgb 244 165 130 ∷ rgb 253 219 199 ∷ rgb 255 255 255 ∷ rgb 224 224 224 ∷ rgb 186 186 186 ∷ rgb 135 135 135 ∷
    rgb 77 77 77 ∷ rgb 26 26 26 ∷ []

abbrev pub rd_pu : List ℕ
rd_pu =
    rgb 255 247 243 ∷ rgb 253 224 221 ∷ rgb 252 197 192 ∷ rgb 250 159 181 ∷ rgb 247 104 161 ∷ rgb 221 52 151 ∷ rgb 174 1 126 ∷ rgb 122 1 119 ∷ rgb 73 0 106 ∷ []

abbrev pub rd_yl_bu : List ℕ
rd_yl_bu =
    rgb 165 0 38 ∷ rgb 215 48 39 ∷ rgb 244 109 67 ∷ rgb 253 174 97 ∷ rgb 254 224 144 ∷ rgb 255 255 191 ∷ rgb 224 243 248 ∷ rgb 171 217 233 ∷ rgb 116 173 209 ∷
    rgb 69 117 180 ∷ rgb 49 54 149 ∷ []

abbrev pub rd_yl_gn : List ℕ
rd_yl_gn =
    rgb 165 0 38 ∷ rgb 215 48 39 ∷ rgb 244 109 67 ∷ rgb 253 174 97 ∷ rgb 254 224 139 ∷ rgb 255 255 191 ∷ rgb 217 239 139 ∷ rgb 166 217 106 ∷ rgb 102 189 99 ∷
    rgb 26 152 80 ∷ rgb 0 104 55 ∷ []

abbrev pub reds : List ℕ
reds =
    rgb 255 245 240 ∷ rgb 254 224 210 ∷ rgb 252 187 161 ∷ rgb 252 146 114 ∷ rgb 251 106 74 ∷ rgb 239 59 44 ∷ rgb 203 24 29 ∷ rgb 165 15 21 ∷ rgb 103 0 13 ∷ []

abbrev pub spectral : List ℕ
spectral =
    rgb 158 1 66 ∷ rgb 213 62 79 ∷ rgb 244 109 67 ∷ rgb 253 174 97 ∷ rgb 254 224 139 ∷ rgb 255 255 191 ∷ rgb 230 245 152 ∷ rgb 171 221 164 ∷ rgb 102 194 165 ∷
    rgb 50 136 189 ∷ rgb 94 79 162 ∷ []

abbrev pub yl_gn : List ℕ
yl_gn =
    rgb 255 255 229 ∷ rgb 247 252 185 ∷ rgb 217 240 163 ∷ rgb 173 221 142 ∷ rgb 120 198 121 ∷ rgb 65 171 93 ∷ rgb 35 132 67 ∷ rgb 0 104 55 ∷ rgb 0 69 41 ∷ []

abbrev pub yl_gn_bu : List ℕ
yl_gn_bu =
    rgb 255 255 217 ∷ rgb 237 248 177 ∷ rgb 199 233 180 ∷ rgb 127 205 187 ∷ rgb 65 182 196 ∷ rgb 29 145 192 ∷ rgb 34 94 168 ∷ rgb 37 52 148 ∷ rgb 8 29 88 ∷ []

abbrev pub yl_or_br : List ℕ
yl_or_br =
    rgb 255 255 229 ∷ rgb 255 247 188 ∷ rgb 254 227 145 ∷ rgb 254 196 79 ∷ rgb 254 153 41 ∷ rgb 236 112 20 ∷ rgb 204 76 2 ∷ rgb 153 52 4 ∷ rgb 102 37 6 ∷ []

abbrev pub yl_or_rd : List ℕ
yl_or_rd =
    rgb 255 255 204 ∷ rgb 255 237 160 ∷ rgb 254 217 118 ∷ rgb 254 178 76 ∷ rgb 253 141 60 ∷ rgb 252 78 42 ∷ rgb 227 26 28 ∷ rgb 189 0 38 ∷ rgb 128 0 38 ∷ []

abbrev pub accent : List ℕ
accent =
    rgb 127 201 127 ∷ rgb 190 174 212 ∷ rgb 253 192 134 ∷ rgb 255 255 153 ∷ rgb 56 108 176 ∷ rgb 240 2 127 ∷ rgb 191 91 23 ∷ rgb 102 102 102 ∷ []

abbrev pub dark2 : List ℕ
dark2 =
    rgb 27 158 119 ∷ rgb 217 95 2 ∷ rgb 117 112 179 ∷ rgb 231 41 138 ∷ rgb 102 166 30 ∷ rgb 230 171 2 ∷ rgb 166 118 29 ∷ rgb 102 102 102 ∷ []

abbrev pub paired : List ℕ
paired =
    rgb 166 206 227 ∷ rgb 31 120 180 ∷ rgb 178 223 138 ∷ rgb 51 160 44 ∷ rgb 251 154 153 ∷ rgb 227 26 28 ∷ rgb 253 191 111 ∷ rgb 255 127 0 ∷ rgb 202 178 214 ∷
    rgb 106 61 154 ∷ rgb 255 255 153 ∷ rgb 177 89 40 ∷ []

abbrev pub pastel1 : List ℕ
pastel1 =
    rgb 251 180 174 ∷ rgb 179 205 227 ∷ rgb 204 235 197 ∷ rgb 222 203 228 ∷ rgb 254 217 166 ∷ rgb 255 255 204 ∷ rgb 229 216 189 ∷ rgb 253 218 236 ∷ rgb 242 242
    242 ∷ []

abbrev pub pastel2 : List ℕ
pastel2 =
    rgb 179 226 205 ∷ rgb 253 205 172 ∷ rgb 203 213 232 ∷ rgb 244 202 228 ∷ rgb 230 245 201 ∷ rgb 255 242 174 ∷ rgb 241 226 204 ∷ rgb 204 204 204 ∷ []

unfoldable pub palettes : List (List ℕ)
palettes =
    blues ∷ br_bg ∷ bu_gn ∷ bu_pu ∷ gn_bu ∷ greens ∷ greys ∷ oranges ∷ or_rd ∷ pi_yg ∷ pr_gn ∷ pu_bu ∷ pu_bu_gn ∷ pu_or ∷ pu_rd ∷ purples ∷ rd_bu ∷ rd_gy ∷ rd_pu ∷ rd_yl_bu ∷
    rd_yl_gn ∷ reds ∷ spectral ∷ yl_gn ∷ yl_gn_bu ∷ yl_or_br ∷ yl_or_rd ∷ accent ∷ dark2 ∷ paired ∷ pastel1 ∷ pastel2 ∷ []

-- no colours beyond the last number
abbrev pub palette : ℕ → List ℕ
palette number = get_or palettes number []

-- the table: the lists one after the other, and where each begins
unfoldable pub palette_table : List ℕ
palette_table = flatten palettes

unfoldable pub offset : ℕ → ℕ
offset number = length (flatten (take number palettes))
