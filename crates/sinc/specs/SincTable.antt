-- S, `SINC_TABLE` of the Rust original: 601 entries, ten to a line. `negsuc n` is −(n + 1). Definitions only.
-- Assumes nothing.
use Rattle.std.specs.Prelude.{List, [], ◌∷◌, ℕ, ℤ, pos, negsuc}

-- its entries: 12 lobes of 50 points, and the end
abbrev pub sinc_table_size : ℕ
sinc_table_size = 601

unfoldable pub sinc_table : List ℤ
sinc_table =
    pos 0 ∷ pos 0 ∷ pos 0 ∷ pos 0 ∷ pos 0 ∷ pos 0 ∷ pos 0 ∷ negsuc 0 ∷ negsuc 0 ∷ negsuc 1 ∷
    negsuc 1 ∷ negsuc 2 ∷ negsuc 3 ∷ negsuc 5 ∷ negsuc 6 ∷ negsuc 8 ∷ negsuc 9 ∷ negsuc 11 ∷ negsuc 13 ∷ negsuc 16 ∷
    negsuc 18 ∷ negsuc 20 ∷ negsuc 23 ∷ negsuc 25 ∷ negsuc 28 ∷ negsuc 31 ∷ negsuc 33 ∷ negsuc 36 ∷ negsuc 39 ∷ negsuc 41 ∷
    negsuc 43 ∷ negsuc 46 ∷ negsuc 47 ∷ negsuc 49 ∷ negsuc 50 ∷ negsuc 51 ∷ negsuc 52 ∷ negsuc 52 ∷ negsuc 52 ∷ negsuc 51 ∷
    negsuc 49 ∷ negsuc 47 ∷ negsuc 45 ∷ negsuc 42 ∷ negsuc 38 ∷ negsuc 33 ∷ negsuc 28 ∷ negsuc 21 ∷ negsuc 15 ∷ negsuc 7 ∷
    pos 0 ∷ pos 9 ∷ pos 19 ∷ pos 29 ∷ pos 41 ∷ pos 53 ∷ pos 65 ∷ pos 79 ∷ pos 92 ∷ pos 107 ∷
    pos 121 ∷ pos 137 ∷ pos 152 ∷ pos 168 ∷ pos 184 ∷ pos 200 ∷ pos 215 ∷ pos 231 ∷ pos 247 ∷ pos 262 ∷
    pos 276 ∷ pos 291 ∷ pos 304 ∷ pos 317 ∷ pos 328 ∷ pos 339 ∷ pos 348 ∷ pos 357 ∷ pos 363 ∷ pos 369 ∷
    pos 372 ∷ pos 374 ∷ pos 375 ∷ pos 373 ∷ pos 369 ∷ pos 363 ∷ pos 355 ∷ pos 345 ∷ pos 332 ∷ pos 318 ∷
    pos 300 ∷ pos 281 ∷ pos 259 ∷ pos 234 ∷ pos 208 ∷ pos 178 ∷ pos 147 ∷ pos 113 ∷ pos 77 ∷ pos 39 ∷
    pos 0 ∷ negsuc 40 ∷ negsuc 84 ∷ negsuc 129 ∷ negsuc 176 ∷ negsuc 224 ∷ negsuc 273 ∷ negsuc 323 ∷ negsuc 374 ∷ negsuc 425 ∷
    negsuc 477 ∷ negsuc 529 ∷ negsuc 580 ∷ negsuc 631 ∷ negsuc 681 ∷ negsuc 730 ∷ negsuc 778 ∷ negsuc 824 ∷ negsuc 869 ∷ negsuc 911 ∷
    negsuc 950 ∷ negsuc 988 ∷ negsuc 1022 ∷ negsuc 1052 ∷ negsuc 1079 ∷ negsuc 1103 ∷ negsuc 1122 ∷ negsuc 1137 ∷ negsuc 1148 ∷ negsuc 1153 ∷
    negsuc 1154 ∷ negsuc 1150 ∷ negsuc 1140 ∷ negsuc 1124 ∷ negsuc 1104 ∷ negsuc 1077 ∷ negsuc 1045 ∷ negsuc 1006 ∷ negsuc 962 ∷ negsuc 912 ∷
    negsuc 856 ∷ negsuc 795 ∷ negsuc 727 ∷ negsuc 654 ∷ negsuc 575 ∷ negsuc 491 ∷ negsuc 402 ∷ negsuc 308 ∷ negsuc 209 ∷ negsuc 106 ∷
    pos 0 ∷ pos 111 ∷ pos 225 ∷ pos 342 ∷ pos 462 ∷ pos 584 ∷ pos 708 ∷ pos 833 ∷ pos 958 ∷ pos 1084 ∷
    pos 1209 ∷ pos 1333 ∷ pos 1455 ∷ pos 1575 ∷ pos 1693 ∷ pos 1807 ∷ pos 1916 ∷ pos 2022 ∷ pos 2122 ∷ pos 2216 ∷
    pos 2304 ∷ pos 2384 ∷ pos 2457 ∷ pos 2522 ∷ pos 2579 ∷ pos 2625 ∷ pos 2663 ∷ pos 2689 ∷ pos 2706 ∷ pos 2711 ∷
    pos 2705 ∷ pos 2687 ∷ pos 2657 ∷ pos 2614 ∷ pos 2559 ∷ pos 2491 ∷ pos 2411 ∷ pos 2317 ∷ pos 2211 ∷ pos 2092 ∷
    pos 1960 ∷ pos 1815 ∷ pos 1658 ∷ pos 1489 ∷ pos 1308 ∷ pos 1115 ∷ pos 912 ∷ pos 698 ∷ pos 474 ∷ pos 241 ∷
    pos 0 ∷ negsuc 248 ∷ negsuc 505 ∷ negsuc 768 ∷ negsuc 1036 ∷ negsuc 1309 ∷ negsuc 1585 ∷ negsuc 1863 ∷ negsuc 2143 ∷ negsuc 2423 ∷
    negsuc 2702 ∷ negsuc 2979 ∷ negsuc 3253 ∷ negsuc 3522 ∷ negsuc 3786 ∷ negsuc 4042 ∷ negsuc 4290 ∷ negsuc 4528 ∷ negsuc 4756 ∷ negsuc 4971 ∷
    negsuc 5173 ∷ negsuc 5359 ∷ negsuc 5530 ∷ negsuc 5684 ∷ negsuc 5818 ∷ negsuc 5934 ∷ negsuc 6028 ∷ negsuc 6100 ∷ negsuc 6149 ∷ negsuc 6174 ∷
    negsuc 6174 ∷ negsuc 6148 ∷ negsuc 6095 ∷ negsuc 6014 ∷ negsuc 5904 ∷ negsuc 5766 ∷ negsuc 5598 ∷ negsuc 5400 ∷ negsuc 5171 ∷ negsuc 4911 ∷
    negsuc 4620 ∷ negsuc 4297 ∷ negsuc 3943 ∷ negsuc 3557 ∷ negsuc 3140 ∷ negsuc 2692 ∷ negsuc 2213 ∷ negsuc 1704 ∷ negsuc 1165 ∷ negsuc 596 ∷
    pos 0 ∷ pos 625 ∷ pos 1277 ∷ pos 1955 ∷ pos 2658 ∷ pos 3386 ∷ pos 4135 ∷ pos 4906 ∷ pos 5697 ∷ pos 6506 ∷
    pos 7332 ∷ pos 8173 ∷ pos 9027 ∷ pos 9893 ∷ pos 10769 ∷ pos 11654 ∷ pos 12544 ∷ pos 13439 ∷ pos 14335 ∷ pos 15232 ∷
    pos 16128 ∷ pos 17019 ∷ pos 17904 ∷ pos 18782 ∷ pos 19649 ∷ pos 20504 ∷ pos 21345 ∷ pos 22170 ∷ pos 22977 ∷ pos 23763 ∷
    pos 24527 ∷ pos 25268 ∷ pos 25982 ∷ pos 26669 ∷ pos 27327 ∷ pos 27953 ∷ pos 28547 ∷ pos 29107 ∷ pos 29632 ∷ pos 30119 ∷
    pos 30569 ∷ pos 30979 ∷ pos 31349 ∷ pos 31678 ∷ pos 31964 ∷ pos 32208 ∷ pos 32408 ∷ pos 32565 ∷ pos 32677 ∷ pos 32744 ∷
    pos 32767 ∷ pos 32744 ∷ pos 32677 ∷ pos 32565 ∷ pos 32408 ∷ pos 32208 ∷ pos 31964 ∷ pos 31678 ∷ pos 31349 ∷ pos 30979 ∷
    pos 30569 ∷ pos 30119 ∷ pos 29632 ∷ pos 29107 ∷ pos 28547 ∷ pos 27953 ∷ pos 27327 ∷ pos 26669 ∷ pos 25982 ∷ pos 25268 ∷
    pos 24527 ∷ pos 23763 ∷ pos 22977 ∷ pos 22170 ∷ pos 21345 ∷ pos 20504 ∷ pos 19649 ∷ pos 18782 ∷ pos 17904 ∷ pos 17019 ∷
    pos 16128 ∷ pos 15232 ∷ pos 14335 ∷ pos 13439 ∷ pos 12544 ∷ pos 11654 ∷ pos 10769 ∷ pos 9893 ∷ pos 9027 ∷ pos 8173 ∷
    pos 7332 ∷ pos 6506 ∷ pos 5697 ∷ pos 4906 ∷ pos 4135 ∷ pos 3386 ∷ pos 2658 ∷ pos 1955 ∷ pos 1277 ∷ pos 625 ∷
    pos 0 ∷ negsuc 596 ∷ negsuc 1165 ∷ negsuc 1704 ∷ negsuc 2213 ∷ negsuc 2692 ∷ negsuc 3140 ∷ negsuc 3557 ∷ negsuc 3943 ∷ negsuc 4297 ∷
    negsuc 4620 ∷ negsuc 4911 ∷ negsuc 5171 ∷ negsuc 5400 ∷ negsuc 5598 ∷ negsuc 5766 ∷ negsuc 5904 ∷ negsuc 6014 ∷ negsuc 6095 ∷ negsuc 6148 ∷
    negsuc 6174 ∷ negsuc 6174 ∷ negsuc 6149 ∷ negsuc 6100 ∷ negsuc 6028 ∷ negsuc 5934 ∷ negsuc 5818 ∷ negsuc 5684 ∷ negsuc 5530 ∷ negsuc 5359 ∷
    negsuc 5173 ∷ negsuc 4971 ∷ negsuc 4756 ∷ negsuc 4528 ∷ negsuc 4290 ∷ negsuc 4042 ∷ negsuc 3786 ∷ negsuc 3522 ∷ negsuc 3253 ∷ negsuc 2979 ∷
    negsuc 2702 ∷ negsuc 2423 ∷ negsuc 2143 ∷ negsuc 1863 ∷ negsuc 1585 ∷ negsuc 1309 ∷ negsuc 1036 ∷ negsuc 768 ∷ negsuc 505 ∷ negsuc 248 ∷
    pos 0 ∷ pos 241 ∷ pos 474 ∷ pos 698 ∷ pos 912 ∷ pos 1115 ∷ pos 1308 ∷ pos 1489 ∷ pos 1658 ∷ pos 1815 ∷
    pos 1960 ∷ pos 2092 ∷ pos 2211 ∷ pos 2317 ∷ pos 2411 ∷ pos 2491 ∷ pos 2559 ∷ pos 2614 ∷ pos 2657 ∷ pos 2687 ∷
    pos 2705 ∷ pos 2711 ∷ pos 2706 ∷ pos 2689 ∷ pos 2663 ∷ pos 2625 ∷ pos 2579 ∷ pos 2522 ∷ pos 2457 ∷ pos 2384 ∷
    pos 2304 ∷ pos 2216 ∷ pos 2122 ∷ pos 2022 ∷ pos 1916 ∷ pos 1807 ∷ pos 1693 ∷ pos 1575 ∷ pos 1455 ∷ pos 1333 ∷
    pos 1209 ∷ pos 1084 ∷ pos 958 ∷ pos 833 ∷ pos 708 ∷ pos 584 ∷ pos 462 ∷ pos 342 ∷ pos 225 ∷ pos 111 ∷
    pos 0 ∷ negsuc 106 ∷ negsuc 209 ∷ negsuc 308 ∷ negsuc 402 ∷ negsuc 491 ∷ negsuc 575 ∷ negsuc 654 ∷ negsuc 727 ∷ negsuc 795 ∷
    negsuc 856 ∷ negsuc 912 ∷ negsuc 962 ∷ negsuc 1006 ∷ negsuc 1045 ∷ negsuc 1077 ∷ negsuc 1104 ∷ negsuc 1124 ∷ negsuc 1140 ∷ negsuc 1150 ∷
    negsuc 1154 ∷ negsuc 1153 ∷ negsuc 1148 ∷ negsuc 1137 ∷ negsuc 1122 ∷ negsuc 1103 ∷ negsuc 1079 ∷ negsuc 1052 ∷ negsuc 1022 ∷ negsuc 988 ∷
    negsuc 950 ∷ negsuc 911 ∷ negsuc 869 ∷ negsuc 824 ∷ negsuc 778 ∷ negsuc 730 ∷ negsuc 681 ∷ negsuc 631 ∷ negsuc 580 ∷ negsuc 529 ∷
    negsuc 477 ∷ negsuc 425 ∷ negsuc 374 ∷ negsuc 323 ∷ negsuc 273 ∷ negsuc 224 ∷ negsuc 176 ∷ negsuc 129 ∷ negsuc 84 ∷ negsuc 40 ∷
    pos 0 ∷ pos 39 ∷ pos 77 ∷ pos 113 ∷ pos 147 ∷ pos 178 ∷ pos 208 ∷ pos 234 ∷ pos 259 ∷ pos 281 ∷
    pos 300 ∷ pos 318 ∷ pos 332 ∷ pos 345 ∷ pos 355 ∷ pos 363 ∷ pos 369 ∷ pos 373 ∷ pos 375 ∷ pos 374 ∷
    pos 372 ∷ pos 369 ∷ pos 363 ∷ pos 357 ∷ pos 348 ∷ pos 339 ∷ pos 328 ∷ pos 317 ∷ pos 304 ∷ pos 291 ∷
    pos 276 ∷ pos 262 ∷ pos 247 ∷ pos 231 ∷ pos 215 ∷ pos 200 ∷ pos 184 ∷ pos 168 ∷ pos 152 ∷ pos 137 ∷
    pos 121 ∷ pos 107 ∷ pos 92 ∷ pos 79 ∷ pos 65 ∷ pos 53 ∷ pos 41 ∷ pos 29 ∷ pos 19 ∷ pos 9 ∷
    pos 0 ∷ negsuc 7 ∷ negsuc 15 ∷ negsuc 21 ∷ negsuc 28 ∷ negsuc 33 ∷ negsuc 38 ∷ negsuc 42 ∷ negsuc 45 ∷ negsuc 47 ∷
    negsuc 49 ∷ negsuc 51 ∷ negsuc 52 ∷ negsuc 52 ∷ negsuc 52 ∷ negsuc 51 ∷ negsuc 50 ∷ negsuc 49 ∷ negsuc 47 ∷ negsuc 46 ∷
    negsuc 43 ∷ negsuc 41 ∷ negsuc 39 ∷ negsuc 36 ∷ negsuc 33 ∷ negsuc 31 ∷ negsuc 28 ∷ negsuc 25 ∷ negsuc 23 ∷ negsuc 20 ∷
    negsuc 18 ∷ negsuc 16 ∷ negsuc 13 ∷ negsuc 11 ∷ negsuc 9 ∷ negsuc 8 ∷ negsuc 6 ∷ negsuc 5 ∷ negsuc 3 ∷ negsuc 2 ∷
    negsuc 1 ∷ negsuc 1 ∷ negsuc 0 ∷ negsuc 0 ∷ pos 0 ∷ pos 0 ∷ pos 0 ∷ pos 0 ∷ pos 0 ∷ pos 0 ∷
    pos 0 ∷ []
