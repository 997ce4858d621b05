mod Means
