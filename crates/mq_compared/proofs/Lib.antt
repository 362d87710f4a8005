mod InPlaceLemmas
